-- The hulls of a prefix, and what a sequence file has of them.
use Rattle.std.proofs.Common.{◌≡◌, ℕ, ◌<◌, List, [], ◌∷◌, ◌++◌, append-nil, ◌↔◌, ◌⊎◌, Ordering, Less, Equal, Greater, length, get_or, inl, inr, ⊎_elim, refl, sym, ap, ◌∙◌, subst, arith}
use Rattle.std.specs.Prelude.{ℤ, All, Any, ◌≤ℤ◌}
use Rattle.std.specs.Ordering.{nat_cmp}
use Rattle.std.specs.Cmp.Lexicographic.{slice_cmp}
use Rattle.std.proofs.lemmas.Int.{by_lt_z, ints}
use Rattle.std.proofs.lemmas.Cmp.{nat_list_cmp_total, tied_itself}
use Rattle.std.proofs.lemmas.Map.Lookups.{exact_bytes}
use Rattle.std.proofs.lemmas.List.Concat.{flat_map-append}
use Rattle.std.proofs.lemmas.List.Elements.{All-cons, All-nil, All-weaker}
use Rattle.tsdb_plan.specs.declared.entry.FileEntry.{FileEntry}
use Rattle.tsdb_plan.specs.declared.entry.Hull.{Hull}
use Rattle.tsdb_plan.specs.CrossPlan.{hulls_of, HasTimeFromStart, HasTimeUpToEnd}
use Rattle.tsdb_plan.specs.Steps.{Reaches}
use Rattle.tsdb_plan.proofs.ListFacts.{Any-nil, Any-head, Any-tail, Any-weaker, Any-left, Any-right, Any-append}

-- the hull of one device among parts of hulls
record IsHullIn (parts : List Hull) (hull : Hull) : Type 0 where
  pub starts : Any (λ part. (part.device ≡ hull.device) × (part.from ≡ hull.from)) parts
  pub least : All (λ part. part.device ≡ hull.device → hull.from ≤ℤ part.from) parts
  pub ends : Any (λ part. (part.device ≡ hull.device) × (part.to ≡ hull.to)) parts
  pub greatest : All (λ part. part.device ≡ hull.device → part.to ≤ℤ hull.to) parts

abbrev HasHull : List Hull → List ℕ → Type 0
HasHull parts device = (hull : Hull) × (hull.device ≡ device) × IsHullIn parts hull

abbrev HasNone : List Hull → List ℕ → Type 0
HasNone parts device = All (λ part. part.device ≡ device → ⊥) parts

same_or_not : (a b : List ℕ) → (a ≡ b) ⊎ (a ≡ b → ⊥)
same_or_not a b =
    let differ : (slice_cmp nat_cmp a b ≡ Equal → ⊥) → a ≡ b → ⊥ = λ never e. never (subst (λ x. slice_cmp nat_cmp a x ≡ Equal) e (tied_itself nat_list_cmp_total a)) in
    told (slice_cmp nat_cmp a b) refl differ
  where
    told : (o : Ordering) → slice_cmp nat_cmp a b ≡ o → ((slice_cmp nat_cmp a b ≡ Equal → ⊥) → a ≡ b → ⊥) → (a ≡ b) ⊎ (a ≡ b → ⊥)
    told Less e differ = inr (differ (λ t. absurd cc))
    told Equal e differ = inl (exact_bytes a b e)
    told Greater e differ = inr (differ (λ t. absurd cc))

-- the lesser and the greater of two times
lesser : (a b : ℤ) → (c : ℤ) × (c ≤ℤ a) × (c ≤ℤ b) × ((c ≡ a) ⊎ (c ≡ b))
lesser a b = by_lt_z a b (λ l. (a, omega (arith, ints), omega (arith, ints), inl refl)) (λ m. (b, omega (arith, ints), omega (arith, ints), inr refl))

greater : (a b : ℤ) → (c : ℤ) × (a ≤ℤ c) × (b ≤ℤ c) × ((c ≡ a) ⊎ (c ≡ b))
greater a b = by_lt_z a b (λ l. (b, omega (arith, ints), omega (arith, ints), inr refl)) (λ m. (a, omega (arith, ints), omega (arith, ints), inl refl))

-- the hull with one part more
with_part : (x : Hull) (xs : List Hull) (device : List ℕ) → x.device ≡ device → HasNone xs device ⊎ HasHull xs device → HasHull (x ∷ xs) device
with_part x xs device e (inl none) =
    let hull : Hull = record { device = device; from = x.from; to = x.to } in (
      hull,
      refl,
      record {
        starts = Any-head (λ part. (part.device ≡ device) × (part.from ≡ x.from)) x xs (e, refl);
        least = All-cons (λ part. part.device ≡ device → x.from ≤ℤ part.from) x xs (λ _. omega (arith, ints)) (All-weaker (λ part. part.device ≡ device → ⊥) (λ part. part.device ≡ device → x.from ≤ℤ part.from) (λ part never same. absurd (never same)) xs none);
        ends = Any-head (λ part. (part.device ≡ device) × (part.to ≡ x.to)) x xs (e, refl);
        greatest = All-cons (λ part. part.device ≡ device → part.to ≤ℤ x.to) x xs (λ _. omega (arith, ints)) (All-weaker (λ part. part.device ≡ device → ⊥) (λ part. part.device ≡ device → part.to ≤ℤ x.to) (λ part never same. absurd (never same)) xs none);
      },
    )
with_part x xs device e (inr (h, named, is)) =
    let low = lesser x.from h.from in
    let high = greater x.to h.to in
    let hull : Hull = record { device = device; from = low.0; to = high.0 } in (
      hull,
      refl,
      record {
        starts = ⊎_elim
            (λ (own : low.0 ≡ x.from). Any-head (λ part. (part.device ≡ device) × (part.from ≡ low.0)) x xs (e, sym own))
            (λ (other : low.0 ≡ h.from). Any-tail (λ part. (part.device ≡ device) × (part.from ≡ low.0)) x xs (Any-weaker (λ part. (part.device ≡ h.device) × (part.from ≡ h.from)) (λ part. (part.device ≡ device) × (part.from ≡ low.0)) (λ part both. (both.0 ∙ named, both.1 ∙ sym other)) xs is.starts))
            low.3;
        least = All-cons (λ part. part.device ≡ device → low.0 ≤ℤ part.from) x xs (λ _. low.1) (All-weaker (λ part. part.device ≡ h.device → h.from ≤ℤ part.from) (λ part. part.device ≡ device → low.0 ≤ℤ part.from) (λ part above same. let a : h.from ≤ℤ part.from = above (same ∙ sym named) in let b : low.0 ≤ℤ h.from = low.2 in omega (arith, ints)) xs is.least);
        ends = ⊎_elim
            (λ (own : high.0 ≡ x.to). Any-head (λ part. (part.device ≡ device) × (part.to ≡ high.0)) x xs (e, sym own))
            (λ (other : high.0 ≡ h.to). Any-tail (λ part. (part.device ≡ device) × (part.to ≡ high.0)) x xs (Any-weaker (λ part. (part.device ≡ h.device) × (part.to ≡ h.to)) (λ part. (part.device ≡ device) × (part.to ≡ high.0)) (λ part both. (both.0 ∙ named, both.1 ∙ sym other)) xs is.ends))
            high.3;
        greatest = All-cons (λ part. part.device ≡ device → part.to ≤ℤ high.0) x xs (λ _. high.1) (All-weaker (λ part. part.device ≡ h.device → part.to ≤ℤ h.to) (λ part. part.device ≡ device → part.to ≤ℤ high.0) (λ part below same. let a : part.to ≤ℤ h.to = below (same ∙ sym named) in let b : h.to ≤ℤ high.0 = high.2 in omega (arith, ints)) xs is.greatest);
      },
    )

-- a part of another device changes nothing
without_part : (x : Hull) (xs : List Hull) (device : List ℕ) → (x.device ≡ device → ⊥) → HasNone xs device ⊎ HasHull xs device → HasNone (x ∷ xs) device ⊎ HasHull (x ∷ xs) device
without_part x xs device other (inl none) = inl (All-cons (λ part. part.device ≡ device → ⊥) x xs other none)
without_part x xs device other (inr (h, named, is)) = inr (
  h,
  named,
  record {
    starts = Any-tail (λ part. (part.device ≡ h.device) × (part.from ≡ h.from)) x xs is.starts;
    least = All-cons (λ part. part.device ≡ h.device → h.from ≤ℤ part.from) x xs (λ same. absurd (other (same ∙ named))) is.least;
    ends = Any-tail (λ part. (part.device ≡ h.device) × (part.to ≡ h.to)) x xs is.ends;
    greatest = All-cons (λ part. part.device ≡ h.device → part.to ≤ℤ h.to) x xs (λ same. absurd (other (same ∙ named))) is.greatest;
  },
)

-- a device has a hull, or no part is of it
hull_or_none : (parts : List Hull) (device : List ℕ) → HasNone parts device ⊎ HasHull parts device
hull_or_none [] device = inl (All-nil (λ part. part.device ≡ device → ⊥))
hull_or_none (x ∷ xs) device =
    ⊎_elim
    (λ same. inr (with_part x xs device same (hull_or_none xs device)))
    (λ other. without_part x xs device other (hull_or_none xs device))
    (same_or_not x.device device)

hull_of_device : (parts : List Hull) (k : ℕ) (b : Hull) → k < length parts → get_or parts k b ≡ b → HasHull parts b.device
hull_of_device parts k b l e =
    ⊎_elim
    (λ none. absurd (none k b l (ap (λ h. h.device) e)))
    (λ has. has)
    (hull_or_none parts b.device)

-- to have a time from the start of a hull on is to reach the hulls of the prefix
pub from_start : (prefix : List FileEntry) (file : FileEntry) → HasTimeFromStart prefix file → Reaches file.hulls (hulls_of prefix)
from_start prefix file (hull, is, any) =
    Any-weaker (λ part. (part.device ≡ hull.device) × (hull.from ≤ℤ part.to)) (λ a. Any (λ b. (a.device ≡ b.device) × (b.from ≤ℤ a.to)) (hulls_of prefix))
    (λ a has. Any-weaker (λ part. (part.device ≡ hull.device) × (part.from ≡ hull.from)) (λ b. (a.device ≡ b.device) × (b.from ≤ℤ a.to))
    (λ b own. (has.0 ∙ sym own.0, let low : hull.from ≤ℤ a.to = has.1 in let e : b.from ≡ hull.from = own.1 in omega (arith, ints))) (hulls_of prefix) is.starts)
    file.hulls any

pub to_start : (prefix : List FileEntry) (file : FileEntry) → Reaches file.hulls (hulls_of prefix) → HasTimeFromStart prefix file
to_start prefix file (k, a, l, e, (n, b, m, f, (same, low))) =
    let found = hull_of_device (hulls_of prefix) n b m f in
    let hull = found.0 in
    let is = found.2 in
    let least : hull.from ≤ℤ b.from = subst (λ x. hull.from ≤ℤ x.from) f (is.least n b m (ap (λ x. x.device) f ∙ sym found.1)) in
    (hull, record { starts = is.starts; least = is.least; ends = is.ends; greatest = is.greatest }, (k, a, l, e, (same ∙ sym found.1, omega (arith, ints))))

-- and to have a time up to the end of a hull is to be reached by them
pub from_end : (prefix : List FileEntry) (file : FileEntry) → HasTimeUpToEnd prefix file → Reaches (hulls_of prefix) file.hulls
from_end prefix file (hull, is, any) =
    Any-weaker (λ part. (part.device ≡ hull.device) × (part.to ≡ hull.to)) (λ a. Any (λ b. (a.device ≡ b.device) × (b.from ≤ℤ a.to)) file.hulls)
    (λ a own. Any-weaker (λ part. (part.device ≡ hull.device) × (part.from ≤ℤ hull.to)) (λ b. (a.device ≡ b.device) × (b.from ≤ℤ a.to))
    (λ b has. (own.0 ∙ sym has.0, let low : b.from ≤ℤ hull.to = has.1 in let e : a.to ≡ hull.to = own.1 in omega (arith, ints))) file.hulls any)
    (hulls_of prefix) is.ends

pub to_end : (prefix : List FileEntry) (file : FileEntry) → Reaches (hulls_of prefix) file.hulls → HasTimeUpToEnd prefix file
to_end prefix file (k, a, l, e, (n, b, m, f, (same, low))) =
    let found = hull_of_device (hulls_of prefix) k a l e in
    let hull = found.0 in
    let is = found.2 in
    let greatest : a.to ≤ℤ hull.to = subst (λ x. x.to ≤ℤ hull.to) e (is.greatest k a l (ap (λ x. x.device) e ∙ sym found.1)) in
    (hull, record { starts = is.starts; least = is.least; ends = is.ends; greatest = is.greatest }, (n, b, m, f, (sym same ∙ sym found.1, omega (arith, ints))))

-- two lists of hulls, one after the other, are reached where either is, and reach where either does
pub reached_either : (late xs ys : List Hull) → Reaches late (xs ++ ys) → Reaches late xs ⊎ Reaches late ys
reached_either late xs ys (k, a, l, e, any) =
    ⊎_elim (λ here. inl (k, a, l, e, here)) (λ there. inr (k, a, l, e, there)) (Any-append (λ b. (a.device ≡ b.device) × (b.from ≤ℤ a.to)) xs ys any)

pub reached_left : (late xs ys : List Hull) → Reaches late xs → Reaches late (xs ++ ys)
reached_left late xs ys (k, a, l, e, any) = (k, a, l, e, Any-left (λ b. (a.device ≡ b.device) × (b.from ≤ℤ a.to)) xs ys any)

pub reached_right : (late xs ys : List Hull) → Reaches late ys → Reaches late (xs ++ ys)
reached_right late xs ys (k, a, l, e, any) = (k, a, l, e, Any-right (λ b. (a.device ≡ b.device) × (b.from ≤ℤ a.to)) xs ys any)

pub reaches_either : (xs ys early : List Hull) → Reaches (xs ++ ys) early → Reaches xs early ⊎ Reaches ys early
reaches_either xs ys early h = Any-append (λ a. Any (λ b. (a.device ≡ b.device) × (b.from ≤ℤ a.to)) early) xs ys h

pub reaches_left : (xs ys early : List Hull) → Reaches xs early → Reaches (xs ++ ys) early
reaches_left xs ys early h = Any-left (λ a. Any (λ b. (a.device ≡ b.device) × (b.from ≤ℤ a.to)) early) xs ys h

pub reaches_right : (xs ys early : List Hull) → Reaches ys early → Reaches (xs ++ ys) early
reaches_right xs ys early h = Any-right (λ a. Any (λ b. (a.device ≡ b.device) × (b.from ≤ℤ a.to)) early) xs ys h

-- the hulls of files one after another, and of one file
hulls_of-append : (files others : List FileEntry) → hulls_of (files ++ others) ≡ hulls_of files ++ hulls_of others
hulls_of-append files others = flat_map-append (λ (file : FileEntry). file.hulls) files others

hulls_of-one : (file : FileEntry) → hulls_of (file ∷ []) ≡ file.hulls
hulls_of-one file = append-nil file.hulls

-- what a prefix with more files has
pub start_either : (prefix more : List FileEntry) (file : FileEntry) → HasTimeFromStart (prefix ++ more) file → HasTimeFromStart prefix file ⊎ HasTimeFromStart more file
start_either prefix more file h =
    let e = hulls_of-append prefix more in
    ⊎_elim
    (λ here. inl (to_start prefix file here))
    (λ there. inr (to_start more file there))
    (reached_either file.hulls (hulls_of prefix) (hulls_of more) (subst (λ hulls. Reaches file.hulls hulls) e (from_start (prefix ++ more) file h)))

pub start_left : (prefix more : List FileEntry) (file : FileEntry) → HasTimeFromStart prefix file → HasTimeFromStart (prefix ++ more) file
start_left prefix more file h = to_start (prefix ++ more) file (subst (λ hulls. Reaches file.hulls hulls) (sym (hulls_of-append prefix more)) (reached_left file.hulls (hulls_of prefix) (hulls_of more) (from_start prefix file h)))

pub start_right : (prefix more : List FileEntry) (file : FileEntry) → HasTimeFromStart more file → HasTimeFromStart (prefix ++ more) file
start_right prefix more file h = to_start (prefix ++ more) file (subst (λ hulls. Reaches file.hulls hulls) (sym (hulls_of-append prefix more)) (reached_right file.hulls (hulls_of prefix) (hulls_of more) (from_start more file h)))

pub end_either : (prefix more : List FileEntry) (file : FileEntry) → HasTimeUpToEnd (prefix ++ more) file → HasTimeUpToEnd prefix file ⊎ HasTimeUpToEnd more file
end_either prefix more file h =
    let e = hulls_of-append prefix more in
    ⊎_elim
    (λ here. inl (to_end prefix file here))
    (λ there. inr (to_end more file there))
    (reaches_either (hulls_of prefix) (hulls_of more) file.hulls (subst (λ hulls. Reaches hulls file.hulls) e (from_end (prefix ++ more) file h)))

pub end_left : (prefix more : List FileEntry) (file : FileEntry) → HasTimeUpToEnd prefix file → HasTimeUpToEnd (prefix ++ more) file
end_left prefix more file h = to_end (prefix ++ more) file (subst (λ hulls. Reaches hulls file.hulls) (sym (hulls_of-append prefix more)) (reaches_left (hulls_of prefix) (hulls_of more) file.hulls (from_end prefix file h)))

pub end_right : (prefix more : List FileEntry) (file : FileEntry) → HasTimeUpToEnd more file → HasTimeUpToEnd (prefix ++ more) file
end_right prefix more file h = to_end (prefix ++ more) file (subst (λ hulls. Reaches hulls file.hulls) (sym (hulls_of-append prefix more)) (reaches_right (hulls_of prefix) (hulls_of more) file.hulls (from_end more file h)))

-- of one file
pub start_of_one : (unsequence file : FileEntry) → HasTimeFromStart (unsequence ∷ []) file ↔ Reaches file.hulls unsequence.hulls
start_of_one unsequence file =
    let e = hulls_of-one unsequence in (
      λ h. subst (λ hulls. Reaches file.hulls hulls) e (from_start (unsequence ∷ []) file h),
      λ h. to_start (unsequence ∷ []) file (subst (λ hulls. Reaches file.hulls hulls) (sym e) h),
    )

pub end_of_one : (unsequence file : FileEntry) → HasTimeUpToEnd (unsequence ∷ []) file ↔ Reaches unsequence.hulls file.hulls
end_of_one unsequence file =
    let e = hulls_of-one unsequence in (
      λ h. subst (λ hulls. Reaches hulls file.hulls) e (from_end (unsequence ∷ []) file h),
      λ h. to_end (unsequence ∷ []) file (subst (λ hulls. Reaches hulls file.hulls) (sym e) h),
    )

-- of none
pub start_of_none : (file : FileEntry) → HasTimeFromStart [] file → ⊥
start_of_none file (hull, is, any) = Any-nil (λ part. (part.device ≡ hull.device) × (part.from ≡ hull.from)) is.starts

pub end_of_none : (file : FileEntry) → HasTimeUpToEnd [] file → ⊥
end_of_none file (hull, is, any) = Any-nil (λ part. (part.device ≡ hull.device) × (part.to ≡ hull.to)) is.ends
