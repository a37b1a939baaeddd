-- Bytes that are taken one after another.
use Rattle.std.proofs.Common.{ℕ, List, ◌++◌, Option, None, Some, sym, ap, ◌∙◌, append_assoc}
use Rattle.std.specs.Io.KnownBytes.{Consumes}

pub Consumes-twice : (old middle new : Option (List ℕ)) (x y : List ℕ) → Consumes old middle x → Consumes middle new y → Consumes old new (x ++ y)
Consumes-twice None middle new x y a b = tt
Consumes-twice (Some xs) None new x y a b = absurd a
Consumes-twice (Some xs) (Some ys) None x y a b = absurd b
Consumes-twice (Some xs) (Some ys) (Some zs) x y a b = a ∙ ap (λ l. x ++ l) b ∙ sym (append_assoc x y zs)
