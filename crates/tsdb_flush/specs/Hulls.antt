-- The hull of the last device, and how it grows.
use Rattle.std.specs.Prelude.{◌≡◌, ◌≢◌, Bool, true, false, ℕ, ℤ, ◌≤ℤ◌, ◌⊎◌, List, [], ◌∷◌, ◌++◌}
use Rattle.tsdb_plan.specs.declared.entry.Hull.{Hull}

-- the hull is the old one, over the times from the one to the other too
pub record IsWidened (old : Hull) (from to : ℤ) (new : Hull) : Type 0 where
  pub device : new.device ≡ old.device
  pub begins : (new.from ≡ old.from) ⊎ (new.from ≡ from)
  pub ends : (new.to ≡ old.to) ⊎ (new.to ≡ to)
  pub from_old : new.from ≤ℤ old.from
  pub from_new : new.from ≤ℤ from
  pub to_old : old.to ≤ℤ new.to
  pub to_new : to ≤ℤ new.to

-- the last hull is of the device, or no last hull is
abbrev pub EndsIn : List Hull → List ℕ → Bool → Type 0
EndsIn hulls device true = (front : List Hull) × (last : Hull) × (hulls ≡ front ++ last ∷ []) × (last.device ≡ device)
EndsIn hulls device false = (front : List Hull) (last : Hull) → hulls ≡ front ++ last ∷ [] → last.device ≢ device
