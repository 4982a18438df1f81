-- Lemmas of the proofs.
mod Known
