use Rattle.std.proofs.Common.{◌≡◌, ◌⊎◌, inl, inr, ℕ, List, [], ◌∷◌, None, Some, ap, arith, length, length-append, refl, subst, sym, ◌∙◌}
use Rattle.std.proofs.lemmas.Bool.{false≢true}
use Rattle.std.specs.Option.{ForSome}
use Rattle.std.specs.Prelude.{IsSome}
use Rattle.std.specs.declared.option.Option.{Option}
use Rattle.tsdb_outside.specs.Disk.{DiskState, Image, IsLawful, in_slot}
use Rattle.tsdb_outside.specs.declared.disk.Slot.{Slot}
use Rattle.tsdb_frames.specs.Asides.{IsAsideOn, LeftInSlot}
use Rattle.tsdb_frames.specs.Slots.{HasRecords, open_records}
use Rattle.tsdb_frames.specs.declared.aside.Aside.{Aside}
use Rattle.tsdb_frames.specs.declared.aside.Aside.TheVariants.{Closed, Doubted, Settled, Unsettled}
use Rattle.tsdb_frames.proofs.AsideLemmas.{aside_on, closed_seen, doubted_is_unsettled, keeps_leaves, left_on, open_byte, open_seen, shut_byte}
use Rattle.tsdb_frames.proofs.FirstLemmas.{keeps_on}
use Rattle.tsdb_frames.proofs.LogLemmas.{always_on_err}
use Rattle.tsdb_frames.proofs.aside.is_closed.Goals as goal

-- a slot without bytes has no records
no_records : (payloads : List (List ℕ)) (bytes : List ℕ) → length bytes ≡ 0 → HasRecords payloads bytes → ⊥
no_records payloads bytes none has =
    absurd (omega (arith, none, ap (λ (l : List ℕ). length l) has.split, length-append (open_records payloads) (has.gate ∷ has.rest)))

-- of a slot that is read without bytes nothing is known, or its byte 0 may be open
module _ (disk : DiskState) (laws : IsLawful disk) (slot : Slot) where
  empty_aside : (seen : Image) → disk.seen ≡ Some seen → length (in_slot slot seen) ≡ 0 → (aside : Aside) (records : Option (List (List ℕ)))
      → IsAsideOn disk slot aside records → IsAsideOn disk slot Unsettled records
  empty_aside seen told none Settled None stands = tt
  empty_aside seen told none Settled (Some payloads) stands =
      absurd (no_records payloads (in_slot slot seen) none (stands seen (laws.seen_may_stay seen told)))
  empty_aside seen told none Closed None stands = tt
  empty_aside seen told none Closed (Some payloads) stands =
      absurd (no_records [] (in_slot slot seen) none (stands.0 seen (laws.seen_may_stay seen told)))
  empty_aside seen told none Unsettled None stands = tt
  empty_aside seen told none Unsettled (Some payloads) stands = stands
  empty_aside seen told none Doubted None stands = tt
  empty_aside seen told none Doubted (Some payloads) stands = stands

  empty_seen : (seen : Option Image) → disk.seen ≡ seen → IsSome seen → ForSome seen (λ image. length (in_slot slot image) ≡ 0) → (aside : Aside)
      (records : Option (List (List ℕ))) → IsAsideOn disk slot aside records → IsAsideOn disk slot Unsettled records
  empty_seen None told some none aside records stands = absurd (false≢true some)
  empty_seen (Some seen) told some none aside records stands = empty_aside seen told (none seen refl) aside records stands

-- what is known by the variant
closed_has_none : (disk : DiskState) (slot : Slot) (aside : Aside) (records : Option (List (List ℕ))) → aside ≡ Closed
    → IsAsideOn disk slot aside records → LeftInSlot disk slot (HasRecords [])
closed_has_none disk slot Settled records is stands = absurd cc
closed_has_none disk slot Closed None is stands = stands
closed_has_none disk slot Closed (Some payloads) is stands = stands.0
closed_has_none disk slot Unsettled records is stands = absurd cc
closed_has_none disk slot Doubted records is stands = absurd cc

still_unsettled : (disk : DiskState) (slot : Slot) (aside : Aside) (records : Option (List (List ℕ))) → (aside ≡ Unsettled) ⊎ (aside ≡ Doubted)
    → IsAsideOn disk slot aside records → IsAsideOn disk slot Unsettled records
still_unsettled disk slot aside records (inl is) stands = subst (λ (a : Aside). IsAsideOn disk slot a records) is stands
still_unsettled disk slot aside records (inr is) stands = doubted_is_unsettled disk slot aside records is stands

pub returns-in_err-length-clause-keeps : goal.returns-in_err-length-clause-keeps
returns-in_err-length-clause-keeps g c = c.length.ensures.keeps

pub returns-in_err-length-clause-cause : goal.returns-in_err-length-clause-cause
returns-in_err-length-clause-cause g c = record {
  later = c.length.ensures.cause.later;
  failed = always_on_err c.from_residual.result c.in_err-length.ensures.cause.failed;
}

pub returns-then-length-eq0-clause-closed : goal.returns-then-length-eq0-clause-closed
returns-then-length-eq0-clause-closed g c = λ closed. absurd (false≢true closed)

pub returns-then-length-eq0-clause-there : goal.returns-then-length-eq0-clause-there
returns-then-length-eq0-clause-there g c = λ closed. absurd (false≢true closed)

pub returns-then-length-eq0-clause-length : goal.returns-then-length-eq0-clause-length
returns-then-length-eq0-clause-length g c = λ image is.
    omega (arith, c.in_ok-length.ensures.length image (sym c.length.ensures.keeps.seen ∙ is))

pub returns-then-length-eq0-clause-limit : goal.returns-then-length-eq0-clause-limit
returns-then-length-eq0-clause-limit g c = c.in_ok-length.ensures.limit

pub returns-then-length-eq0-clause-not_closed : goal.returns-then-length-eq0-clause-not_closed
returns-then-length-eq0-clause-not_closed g c = λ closed some records stands.
    let first = g.J.Disk.state c.args.journal.now in
    let mid = g.J.Disk.state c.length.new.self in
    let mid_laws = g.J.Disk.lawful c.length.new.self in
    empty_seen mid mid_laws c.args.slot mid.seen refl (subst (λ (o : Option Image). IsSome o) (sym c.length.ensures.keeps.seen) some)
    (λ image is. omega (arith, c.if-length-eq0.true, c.in_ok-length.ensures.length image (sym c.length.ensures.keeps.seen ∙ is))) c.args.aside records
    (aside_on c.args.slot first mid mid_laws
    (keeps_leaves c.args.slot first mid (g.J.Disk.lawful c.args.journal.now) mid_laws c.length.ensures.keeps) c.args.aside records stands)

pub returns-then-length-eq0-clause-keeps : goal.returns-then-length-eq0-clause-keeps
returns-then-length-eq0-clause-keeps g c = c.length.ensures.keeps

pub returns-then-length-eq0-clause-cause : goal.returns-then-length-eq0-clause-cause
returns-then-length-eq0-clause-cause g c = record { later = c.length.ensures.cause.later; failed = tt }

pub read_first-requires-after_bounds : goal.read_first-requires-after_bounds
read_first-requires-after_bounds g c κs lives = λ image is.
    omega (arith, c.if-length-eq0.false, c.in_ok-length.ensures.length image (sym c.length.ensures.keeps.seen ∙ is))

pub returns-in_err-read_first-in-Settled-clause-keeps : goal.returns-in_err-read_first-in-Settled-clause-keeps
returns-in_err-read_first-in-Settled-clause-keeps g c =
    keeps_on (g.J.Disk.state c.args.journal.now) (g.J.Disk.state c.length.new.self) (g.J.Disk.state c.read_first.new.journal)
    (g.J.Disk.lawful c.args.journal.now) c.length.ensures.keeps c.read_first.ensures.keeps

pub returns-in_err-read_first-in-Settled-clause-cause : goal.returns-in_err-read_first-in-Settled-clause-cause
returns-in_err-read_first-in-Settled-clause-cause g c = record {
  later = omega (arith, c.length.ensures.cause.later, c.read_first.ensures.cause.later);
  failed = always_on_err c.from_residual-in_err-read_first-in-Settled.result
      (omega (arith, c.length.ensures.cause.later, c.in_err-read_first-in-Settled.ensures.cause.failed));
}

pub returns-in_ok-read_first-in-Settled-clause-there : goal.returns-in_ok-read_first-in-Settled-clause-there
returns-in_ok-read_first-in-Settled-clause-there g c = λ closed. omega (arith, c.if-length-eq0.false)

pub returns-in_ok-read_first-in-Settled-clause-length : goal.returns-in_ok-read_first-in-Settled-clause-length
returns-in_ok-read_first-in-Settled-clause-length g c = λ image is.
    omega (arith, c.in_ok-length.ensures.length image (sym c.length.ensures.keeps.seen ∙ sym c.read_first.ensures.keeps.seen ∙ is))

pub returns-in_ok-read_first-in-Settled-clause-limit : goal.returns-in_ok-read_first-in-Settled-clause-limit
returns-in_ok-read_first-in-Settled-clause-limit g c = c.in_ok-length.ensures.limit

pub returns-in_ok-read_first-in-Settled-clause-keeps : goal.returns-in_ok-read_first-in-Settled-clause-keeps
returns-in_ok-read_first-in-Settled-clause-keeps g c =
    keeps_on (g.J.Disk.state c.args.journal.now) (g.J.Disk.state c.length.new.self) (g.J.Disk.state c.read_first.new.journal)
    (g.J.Disk.lawful c.args.journal.now) c.length.ensures.keeps c.read_first.ensures.keeps

pub returns-in_ok-read_first-in-Settled-clause-cause : goal.returns-in_ok-read_first-in-Settled-clause-cause
returns-in_ok-read_first-in-Settled-clause-cause g c = record {
  later = omega (arith, c.length.ensures.cause.later, c.read_first.ensures.cause.later);
  failed = tt;
}

pub returns-in-Closed-clause-closed : goal.returns-in-Closed-clause-closed
returns-in-Closed-clause-closed g c = λ closed some records stands.
    let first = g.J.Disk.state c.args.journal.now in
    let mid = g.J.Disk.state c.length.new.self in
    let mid_laws = g.J.Disk.lawful c.length.new.self in
    closed_has_none mid c.args.slot c.args.aside records c.in-Closed.is
    (aside_on c.args.slot first mid mid_laws
    (keeps_leaves c.args.slot first mid (g.J.Disk.lawful c.args.journal.now) mid_laws c.length.ensures.keeps) c.args.aside records stands)

pub returns-in-Closed-clause-there : goal.returns-in-Closed-clause-there
returns-in-Closed-clause-there g c = λ closed. omega (arith, c.if-length-eq0.false)

pub returns-in-Closed-clause-length : goal.returns-in-Closed-clause-length
returns-in-Closed-clause-length g c = λ image is.
    omega (arith, c.in_ok-length.ensures.length image (sym c.length.ensures.keeps.seen ∙ is))

pub returns-in-Closed-clause-limit : goal.returns-in-Closed-clause-limit
returns-in-Closed-clause-limit g c = c.in_ok-length.ensures.limit

pub returns-in-Closed-clause-not_closed : goal.returns-in-Closed-clause-not_closed
returns-in-Closed-clause-not_closed g c = λ closed. absurd (false≢true (sym closed))

pub returns-in-Closed-clause-keeps : goal.returns-in-Closed-clause-keeps
returns-in-Closed-clause-keeps g c = c.length.ensures.keeps

pub returns-in-Closed-clause-cause : goal.returns-in-Closed-clause-cause
returns-in-Closed-clause-cause g c = record { later = c.length.ensures.cause.later; failed = tt }

pub returns-in-Unsettled-clause-closed : goal.returns-in-Unsettled-clause-closed
returns-in-Unsettled-clause-closed g c = λ closed. absurd (false≢true closed)

pub returns-in-Unsettled-clause-there : goal.returns-in-Unsettled-clause-there
returns-in-Unsettled-clause-there g c = λ closed. absurd (false≢true closed)

pub returns-in-Unsettled-clause-length : goal.returns-in-Unsettled-clause-length
returns-in-Unsettled-clause-length g c = λ image is.
    omega (arith, c.in_ok-length.ensures.length image (sym c.length.ensures.keeps.seen ∙ is))

pub returns-in-Unsettled-clause-limit : goal.returns-in-Unsettled-clause-limit
returns-in-Unsettled-clause-limit g c = c.in_ok-length.ensures.limit

pub returns-in-Unsettled-clause-not_closed : goal.returns-in-Unsettled-clause-not_closed
returns-in-Unsettled-clause-not_closed g c = λ closed some records stands.
    let first = g.J.Disk.state c.args.journal.now in
    let mid = g.J.Disk.state c.length.new.self in
    let mid_laws = g.J.Disk.lawful c.length.new.self in
    still_unsettled mid c.args.slot c.args.aside records c.in-Unsettled.is
    (aside_on c.args.slot first mid mid_laws
    (keeps_leaves c.args.slot first mid (g.J.Disk.lawful c.args.journal.now) mid_laws c.length.ensures.keeps) c.args.aside records stands)

pub returns-in-Unsettled-clause-keeps : goal.returns-in-Unsettled-clause-keeps
returns-in-Unsettled-clause-keeps g c = c.length.ensures.keeps

pub returns-in-Unsettled-clause-cause : goal.returns-in-Unsettled-clause-cause
returns-in-Unsettled-clause-cause g c = record { later = c.length.ensures.cause.later; failed = tt }

pub returns-in_ok-read_first-in-Settled-clause-closed : goal.returns-in_ok-read_first-in-Settled-clause-closed
returns-in_ok-read_first-in-Settled-clause-closed g c = λ closed some records stands.
    let first = g.J.Disk.state c.args.journal.now in
    let mid = g.J.Disk.state c.length.new.self in
    let last = g.J.Disk.state c.read_first.new.journal in
    let mid_laws = g.J.Disk.lawful c.length.new.self in
    let there = aside_on c.args.slot first mid mid_laws
    (keeps_leaves c.args.slot first mid (g.J.Disk.lawful c.args.journal.now) mid_laws c.length.ensures.keeps) c.args.aside records stands in
    left_on c.args.slot mid last (g.J.Disk.lawful c.read_first.new.journal)
    (keeps_leaves c.args.slot mid last mid_laws (g.J.Disk.lawful c.read_first.new.journal) c.read_first.ensures.keeps) (HasRecords [])
    (closed_seen c.args.slot mid mid_laws c.args.aside c.in_ok-read_first-in-Settled.field-0 c.in-Settled.is mid.seen refl
    c.in_ok-read_first-in-Settled.ensures.first (subst (λ (o : Option Image). IsSome o) (sym c.length.ensures.keeps.seen) some)
    (shut_byte _ closed) records there)

pub returns-in_ok-read_first-in-Settled-clause-not_closed : goal.returns-in_ok-read_first-in-Settled-clause-not_closed
returns-in_ok-read_first-in-Settled-clause-not_closed g c = λ closed some records stands.
    let first = g.J.Disk.state c.args.journal.now in
    let mid = g.J.Disk.state c.length.new.self in
    let last = g.J.Disk.state c.read_first.new.journal in
    let mid_laws = g.J.Disk.lawful c.length.new.self in
    let there = aside_on c.args.slot first mid mid_laws
    (keeps_leaves c.args.slot first mid (g.J.Disk.lawful c.args.journal.now) mid_laws c.length.ensures.keeps) c.args.aside records stands in
    aside_on c.args.slot mid last (g.J.Disk.lawful c.read_first.new.journal)
    (keeps_leaves c.args.slot mid last mid_laws (g.J.Disk.lawful c.read_first.new.journal) c.read_first.ensures.keeps) Unsettled records
    (open_seen c.args.slot mid mid_laws c.args.aside c.in_ok-read_first-in-Settled.field-0 c.in-Settled.is mid.seen refl
    c.in_ok-read_first-in-Settled.ensures.first (subst (λ (o : Option Image). IsSome o) (sym c.length.ensures.keeps.seen) some)
    (open_byte _ closed) records there)
