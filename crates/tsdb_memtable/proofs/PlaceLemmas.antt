-- What a device has after an entry of the map is put in or changed.
use Rattle.std.proofs.Common.{◌≡◌, ◌≢◌, ℕ, Bool, true, false, cond, List, Option, None, Some, Ordering, refl, sym, ap, ◌∙◌, subst}
use Rattle.std.specs.Prelude.{ℤ, IsSome, is_some}
use Rattle.std.specs.Ordering.{is_eq, nat_cmp}
use Rattle.std.specs.Cmp.Lexicographic.{slice_cmp}
use Rattle.std.specs.declared.cmp.Ordering.TheVariants.{Less, Equal, Greater}
use Rattle.std.proofs.lemmas.Bool.{false_from_ne_true, false≢true}
use Rattle.std.proofs.lemmas.Map.Lookups.{exact_bytes}
use Rattle.tsdb_memtable.specs.Watermarks.{flat, is_device}

pub is_eq-equal : (o : Ordering) → is_eq o ≡ true → o ≡ Equal
is_eq-equal Less h = absurd (false≢true h)
is_eq-equal Equal h = refl
is_eq-equal Greater h = absurd (false≢true h)

pub one-device : (device other : List ℕ) → is_device device other ≡ true → device ≡ other
one-device device other h = exact_bytes device other (is_eq-equal (slice_cmp nat_cmp device other) h)

pub other-device : (device other : List ℕ) → device ≢ other → is_device device other ≡ false
other-device device other ne = false_from_ne_true _ (λ h. ne (one-device device other h))

-- an entry without a watermark changes no watermark
pub flat-added : (device other : List ℕ) (b : Bool) (old new : Option (Option ℤ)) → b ≡ is_device device other → new ≡ cond b (Some None) old → (device ≡ other → old ≡ None) → flat new ≡ flat old
flat-added device other true old new q e absent = ap flat e ∙ sym (ap flat (absent (one-device device other (sym q))))
flat-added device other false old new q e absent = ap flat e

pub still-some : (b : Bool) (old new : Option (Option ℤ)) (w : Option ℤ) → new ≡ cond b (Some w) old → IsSome old → IsSome new
still-some true old new w e h = let P : Option (Option ℤ) → Type 0 = λ o. IsSome o in subst P (sym e) refl
still-some false old new w e h = let P : Option (Option ℤ) → Type 0 = λ o. IsSome o in subst P (sym e) h

pub none-from : (o : Option (Option ℤ)) → is_some o ≡ false → o ≡ None
none-from None h = refl
none-from (Some w) h = absurd (false≢true (sym h))
