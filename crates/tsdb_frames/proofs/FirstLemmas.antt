-- What the first bytes of a slot say of its first record.
use Rattle.std.proofs.Common.{◌≡◌, ℕ, ◌≤◌, List, [], ◌∷◌, ◌++◌, length, take, drop, refl, sym, ◌∙◌, ap, subst, arith, inl, inr, ⊎_elim, append_assoc, length-append, take-append-drop, None, Some}
use Rattle.std.specs.Prelude.{IfSome}
use Rattle.std.specs.declared.option.Option.{Option}
use Rattle.std.specs.Option.{ForSome}
use Rattle.std.proofs.lemmas.List.{take_all}
use Rattle.tsdb_outside.specs.Disk.{Image, IsLawful, Keeps, DiskState, in_slot}
use Rattle.tsdb_outside.specs.declared.disk.Slot.{Slot}
use Rattle.tsdb_frames.specs.declared.reading.Start.{Start}
use Rattle.tsdb_frames.specs.declared.reading.Start.TheVariants.{Shut, Whole, Broken}
use Rattle.tsdb_frames.specs.declared.record.Frame.{Frame}
use Rattle.tsdb_frames.specs.Firsts.{HasFirst, IsFirst}
use Rattle.tsdb_frames.specs.Slots.{HasRecords, IsTorn, with_length}
use Rattle.tsdb_frames.specs.Steps.{BeginsAs}

-- the first bytes and what is behind them
shut_on : (n : ℕ) (bytes : List ℕ) → HasRecords [] (take n bytes) → HasRecords [] bytes
shut_on n bytes has = record {
  fit = has.fit;
  gate = has.gate;
  rest = has.rest ++ drop n bytes;
  split = sym (take-append-drop n bytes) ∙ ap (λ (l : List ℕ). l ++ drop n bytes) has.split;
  closed = has.closed;
}

whole_on : (frame : Frame) (n : ℕ) (bytes : List ℕ) → HasFirst frame (take n bytes) → HasFirst frame bytes
whole_on frame n bytes has = record {
  at = has.at;
  behind = has.behind ++ drop n bytes;
  after = has.after ++ drop n bytes;
  split = sym (take-append-drop n bytes) ∙ ap (λ (l : List ℕ). l ++ drop n bytes) has.split;
  whole = record {
    fits = has.whole.fits;
    split = ap (λ (l : List ℕ). l ++ drop n bytes) has.whole.split ∙ append_assoc (with_length frame.payload) has.after (drop n bytes);
    gate = omega (arith, has.whole.gate, length-append has.after (drop n bytes));
  };
}

no_bytes : (bytes : List ℕ) → length bytes ≡ 0 → bytes ≡ []
no_bytes [] none = refl
no_bytes (byte ∷ bytes) none = absurd (omega (arith, none))

-- the same of a disk that was looked at before, where it tells
module _ (slot : Slot) (old now : Option Image) (same : now ≡ old) (n : ℕ) (start : Start) where
  pub shut_seen : start ≡ Shut → IfSome now (λ image. BeginsAs start (take n (in_slot slot image))) → IfSome old (λ image. IsFirst None (in_slot slot image))
  shut_seen is found = by_cases old (subst (λ (o : Option Image). IfSome o (λ image. BeginsAs start (take n (in_slot slot image)))) same found)
    where
      by_cases : (o : Option Image) → IfSome o (λ image. BeginsAs start (take n (in_slot slot image))) → IfSome o (λ image. IsFirst None (in_slot slot image))
      by_cases None found = tt
      by_cases (Some image) found =
          shut_on n (in_slot slot image) (subst (λ (s : Start). BeginsAs s (take n (in_slot slot image))) is found)

  pub whole_seen : (frame : Frame) → start ≡ Whole frame → IfSome now (λ image. BeginsAs start (take n (in_slot slot image)))
      → IfSome old (λ image. IsFirst (Some frame) (in_slot slot image))
  whole_seen frame is found = by_cases old (subst (λ (o : Option Image). IfSome o (λ image. BeginsAs start (take n (in_slot slot image)))) same found)
    where
      by_cases : (o : Option Image) → IfSome o (λ image. BeginsAs start (take n (in_slot slot image)))
          → IfSome o (λ image. IsFirst (Some frame) (in_slot slot image))
      by_cases None found = tt
      by_cases (Some image) found =
          whole_on frame n (in_slot slot image) (subst (λ (s : Start). BeginsAs s (take n (in_slot slot image))) is found)

  pub broken_seen : (bytes : ℕ) → bytes ≤ n → ForSome old (λ image. bytes ≡ length (in_slot slot image)) → start ≡ Broken
      → IfSome now (λ image. BeginsAs start (take n (in_slot slot image))) → IfSome old (λ image. IsTorn 0 (in_slot slot image))
  broken_seen bytes all long is found =
      by_cases old long (subst (λ (o : Option Image). IfSome o (λ image. BeginsAs start (take n (in_slot slot image)))) same found)
    where
      by_cases : (o : Option Image) → ForSome o (λ image. bytes ≡ length (in_slot slot image))
          → IfSome o (λ image. BeginsAs start (take n (in_slot slot image))) → IfSome o (λ image. IsTorn 0 (in_slot slot image))
      by_cases None long found = tt
      by_cases (Some image) long found =
          subst (λ (l : List ℕ). IsTorn 0 l) (take_all n (in_slot slot image) (omega (arith, all, long image refl)))
          (subst (λ (s : Start). BeginsAs s (take n (in_slot slot image))) is found)

-- a slot without bytes is torn
pub empty_seen : (slot : Slot) (old : Option Image) (bytes : ℕ) → bytes ≡ 0 → ForSome old (λ image. bytes ≡ length (in_slot slot image))
    → IfSome old (λ image. IsTorn 0 (in_slot slot image))
empty_seen slot None bytes none long = tt
empty_seen slot (Some image) bytes none long =
    inr (refl, no_bytes (in_slot slot image) (omega (arith, none, long image refl)))

-- one call that writes nothing and then another
pub keeps_on : (old mid new : DiskState) → IsLawful old → Keeps old mid → Keeps mid new → Keeps old new
keeps_on old mid new laws first second = record {
  seen = second.seen ∙ first.seen;
  crash = λ image left. first.crash image (second.crash image left);
  time = record {
    later = omega (arith, first.time.later, second.time.later);
    nothing_else = λ t image le left. ⊎_elim
        (λ earlier. ⊎_elim (λ before. inl before) (λ now. inl (laws.counts_now t image le (first.crash image now)))
        (first.time.nothing_else t image le earlier))
        (λ now. inr now) (second.time.nothing_else t image (omega (arith, le, first.time.later)) left);
    keeps = λ t image le left. second.time.keeps t image (omega (arith, le, first.time.later)) (first.time.keeps t image le left);
  };
}
