-- What a rule's share stands for.
use Rattle.std.specs.Prelude.{Option, unwrap_or}
use Rattle.leading.specs.declared.share.Share.{Share}

-- The share, or care bits, a value and a set of 0 where there is none.
abbrev pub share_said : Option Share → Share
share_said part = unwrap_or part (record { care = 0; value = 0; set = 0 })
