use Rattle.std.proofs.Common.{◌≡◌, ◌∷◌, [], ◌++◌, take}
use Rattle.std.specs.List.{flat_map}
use Rattle.tsdb_base.specs.Notation.{escape}
use Rattle.tsdb_print.proofs.append.append_quote.Given as goal

abbrev pub invariant-loop-byte : goal.invariant-loop-byte
invariant-loop-byte l = l.into.items ≡ l.initial.into.items ++ flat_map (λ byte. escape 39 (byte ∷ [])) (take l.byte-index l.bytes)
