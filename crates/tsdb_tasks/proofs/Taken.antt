-- Inputs that are taken one after another, and given back.
use Rattle.std.proofs.Common.{◌≡◌, ℕ, suc, ◌+◌, ◌-◌, ◌<◌, ◌≤◌, ◌==◌, cond, List, [], ◌∷◌, ◌++◌, drop, length, map, take}
use Rattle.std.proofs.Common.{get_or, Option, Some, None, Result, Ok, Err, true, zero, refl, sym, ap, subst, ◌∙◌}
use Rattle.std.proofs.Common.{append_assoc, arith}
use Rattle.std.specs.Cmp.{unsigned_Decides}
use Rattle.std.specs.Prelude.{IsSome, OnErr, slice_range}
use Rattle.std.proofs.lemmas.List.{append-nil, get_or-drop, length-drop, map-append, take_more}
use Rattle.tsdb_base.specs.declared.ids.FileNumber.{FileNumber}
use Rattle.tsdb_base.specs.declared.ids.Space.{Space}
use Rattle.tsdb_base.specs.declared.ids.Space.TheVariants.{Sequence, Unsequence}
use Rattle.tsdb_base.specs.declared.ids.Stamp.{Stamp}
use Rattle.tsdb_tasks.specs.Inputs.{AreHeld, IsHeld, IsOneTaken, TakesInputs, TakesEntries, TakesSomeInputs}
use Rattle.tsdb_tasks.specs.Inputs.{input_numbers}
use Rattle.tsdb_compactions.specs.Jobs.{input_file}
use Rattle.tsdb_compactions.specs.declared.job.Input.{Input}
use Rattle.tsdb_fileset.specs.StateOfFiles.{listed}
use Rattle.tsdb_fileset.specs.Files.{AreKept, KeepsLists, KeptFiles, entries_in, entry_numbers, kept_file, all_numbers}
use Rattle.tsdb_fileset.specs.Files.{outgoing_numbers}
use Rattle.tsdb_fileset.specs.Places.{KeptFile, OthersStay}
use Rattle.tsdb_fileset.specs.Rights.{HasChanged, IsRightTo, one_more}
use Rattle.tsdb_base.proofs.Lists.{count_append, each_append, each_left, each_right, each_weaker}
use Rattle.tsdb_base.specs.Lists.{count, if_some}
use Rattle.tsdb_outside.specs.Files.{NamedFile}
use Rattle.tsdb_pin.proofs.Changing.{LeavesNames, gives_names, gives_none, gives_then}
use Rattle.tsdb_pin.proofs.Changing.{nothing_changed, right_stays, right_was, takes_names, takes_none, takes_one}
use Rattle.tsdb_pin.proofs.Changing.{takes_then}
use Rattle.tsdb_pin.specs.Changes.{ChangesFiles, GivesRights, ChangesNoFile, TakesRights, fewer_rights, more_rights}
use Rattle.tsdb_plan.specs.declared.entry.FileEntry.{FileEntry}
use Rattle.tsdb_plan.specs.declared.entry.Run.{Run}

pub on_err : {T E P : Type 0} (r : Result T E) → P → OnErr r P
on_err (Ok x) p = tt
on_err (Err x) p = p

pub lists_stay : (space : Space) (a b : KeptFiles) → KeepsLists a b → entries_in space b ≡ entries_in space a
lists_stay Sequence a b keeps = keeps.sequence
lists_stay Unsequence a b keeps = keeps.unsequence

pub within_run : (run : Run) (long place : ℕ) → run.end ≤ long → place < run.end → place < long
within_run run long place ends below = omega (arith, ends, below)

-- a run of a list up to one more place
run_more : (first place : ℕ) (entries : List FileEntry) (entry : FileEntry) → first ≤ place → place < length entries
    → entry ≡ get_or entries place entry
    → slice_range entries first (place + 1) ≡ slice_range entries first place ++ entry ∷ []
run_more first place entries entry above within at =
    let inside : place - first < length (drop first entries) =
    omega (arith, above, within, length-drop first entries) in
    let one : (place + 1) - first ≡ (place - first) + 1 = omega (arith, above) in
    let back : first + (place - first) ≡ place = omega (arith, above) in
    ap (λ n. take n (drop first entries)) one
    ∙ take_more (drop first entries) (place - first) entry inside
    ∙ ap (λ e. slice_range entries first place ++ e ∷ [])
    (get_or-drop first entries (place - first) entry ∙ ap (λ n. get_or entries n entry) back ∙ sym at)

-- ---- a listed file is kept

counted_at : (n : ℕ) (entries : List FileEntry) (place : ℕ) (entry : FileEntry) → place < length entries
    → entry ≡ get_or entries place entry → entry.number.0 ≡ n → 1 ≤ count n (entry_numbers entries)
counted_at n [] place entry within at is = absurd (omega (arith, within))
counted_at n (e ∷ entries) zero entry within at is =
    let same : (e.number.0 == n) ≡ true = (unsigned_Decides e.number.0 n).1 (ap (λ (x : FileEntry). x.number.0) (sym
    at) ∙ is) in
    omega (arith, ap {B = ℕ} (λ b. cond b 1 0) same)
counted_at n (e ∷ entries) (suc place) entry within at is =
    let rest = counted_at n entries place entry (omega (arith, within)) at is in omega (arith, rest)

pub all_counted : (n : ℕ) (files : KeptFiles) → count n (all_numbers files)
    ≡ (count n (entry_numbers files.sequence) + count n (entry_numbers files.unsequence))
    + count n (outgoing_numbers files.outgoing)
all_counted n files =
    let both = entry_numbers files.sequence ++ entry_numbers files.unsequence in
    count_append n both (outgoing_numbers files.outgoing)
    ∙ ap (λ m. m + count n (outgoing_numbers files.outgoing))
    (count_append n (entry_numbers files.sequence) (entry_numbers files.unsequence))

pub listed_is_kept : (space : Space) (files : KeptFiles) (place : ℕ) (entry : FileEntry) → AreKept files
    → place < length (entries_in space files) → entry ≡ get_or (entries_in space files) place entry
    → IsSome (kept_file entry.number.0 files)
listed_is_kept space files place entry kept within at =
    by (kept_file entry.number.0 files) refl (one space within at)
  where
    one : (space : Space) → place < length (entries_in space files)
        → entry ≡ get_or (entries_in space files) place entry → 1 ≤ count entry.number.0 (all_numbers files)
    one Sequence within at = omega (
      arith,
      all_counted entry.number.0 files,
      counted_at entry.number.0 files.sequence place entry within at refl,
    )
    one Unsequence within at = omega (
      arith,
      all_counted entry.number.0 files,
      counted_at entry.number.0 files.unsequence place entry within at refl,
    )

    by : (o : Option KeptFile) → kept_file entry.number.0 files ≡ o → 1 ≤ count entry.number.0 (all_numbers files)
        → IsSome (kept_file entry.number.0 files)
    by None e some = absurd (omega (arith, some, kept entry.number.0, ap (λ f. length (if_some f)) e))
    by (Some file) e some = subst IsSome (sym e) refl

module _ {F S R P : Type 0} (name : R → NamedFile) where
  held_was : (change : ℕ → KeptFile → KeptFile) → LeavesNames change → (a b : KeptFiles) → ChangesFiles change a b
      → (inputs : List (Input F S R P)) → AreHeld name b inputs → AreHeld name a inputs
  held_was change leaves a b changes inputs held = each_weaker (IsHeld name b) (IsHeld name a)
      (λ input h. right_was name change leaves a b changes input.number.0 input.right h) inputs held

  pub held_stays : (change : ℕ → KeptFile → KeptFile) → LeavesNames change → (a b : KeptFiles) → ChangesFiles change a b
      → (inputs : List (Input F S R P)) → AreHeld name a inputs → AreHeld name b inputs
  held_stays change leaves a b changes inputs held = each_weaker (IsHeld name a) (IsHeld name b)
      (λ input h. right_stays name change leaves a b changes input.number.0 input.right h) inputs held

  -- ---- one after another

  pub nothing_taken : (a b : KeptFiles) (before after : List (Input F S R P)) → ChangesNoFile a b → after ≡ before
      → TakesInputs name a b before after []
  nothing_taken a b before after keeps same = record {
    are = same ∙ sym (append-nil before);
    rights = takes_none a b keeps;
    held = tt;
  }

  pub taken_then : (a b c : KeptFiles) (before middle after xs ys : List (Input F S R P))
      → TakesInputs name a b before middle xs
      → TakesInputs name b c middle after ys → TakesInputs name a c before after (xs ++ ys)
  taken_then a b c before middle after xs ys first second = record {
    are = second.are ∙ ap (λ l. l ++ ys) first.are ∙ append_assoc before xs ys;
    rights = subst (λ numbers. TakesRights numbers a c) (sym (map-append (λ (i : Input F S R P). i.number.0) xs ys))
        (takes_then (input_numbers xs) (input_numbers ys) a b c first.rights second.rights);
    held = each_append (IsHeld name a) xs ys first.held
        (held_was (λ n. more_rights (count n (input_numbers xs))) (takes_names (input_numbers xs)) a b first.rights ys
        second.held);
  }

  pub one_taken : (a b : KeptFiles) (number : FileNumber) (born : Stamp) (right : R)
      (before after : List (Input F S R P))
      → IsRightTo name (kept_file number.0 a) (Some right) → HasChanged one_more number.0 a.places b.places
      → OthersStay number.0 a.places b.places → KeepsLists a b → b.spare ≡ a.spare
      → after ≡ before ++ record { number = number; born = born; right = right } ∷ []
      → IsOneTaken name number born a b before after
  one_taken a b number born right before after is changed others lists room are = (
    record { number = number; born = born; right = right } ∷ [],
    record { are = are; rights = takes_one number.0 a b changed others lists room; held = (is, tt) },
    refl,
  )

  -- ---- a run of a list

  -- the files of the run up to this place are taken
  pub record AreTakenTo (space : Space) (first : ℕ) (old now : KeptFiles) (before after : List (Input F S R P))
      (place : ℕ)
      : Type 0 where
    pub above : first ≤ place
    pub taken : TakesEntries name (slice_range (entries_in space old) first place) old now before after

  pub none_taken : (space : Space) (first : ℕ) (old : KeptFiles) (before : List (Input F S R P))
      → AreTakenTo space first old old before before first
  none_taken space first old before =
      let zero_long : first - first ≡ 0 = omega arith in
      record {
        above = omega arith;
        taken = (
          [],
          nothing_taken old old before before (nothing_changed old) refl,
          sym (ap (λ n. map listed (take n (drop first (entries_in space old)))) zero_long),
        );
      }

  pub place_inside : (space : Space) (first : ℕ) (old now : KeptFiles) (before after : List (Input F S R P)) (place : ℕ)
      → AreTakenTo space first old now before after place → place < length (entries_in space old)
      → place < length (entries_in space now)
  place_inside space first old now before after place so inside =
      subst (λ (l : List FileEntry). place < length l) (sym (lists_stay space old now so.taken.1.rights.lists)) inside

  pub one_more_taken : (space : Space) (first : ℕ) (old now new : KeptFiles)
      (before middle after : List (Input F S R P))
      (place : ℕ) (entry : FileEntry) → AreTakenTo space first old now before middle place
      → place < length (entries_in space old) → entry ≡ get_or (entries_in space now) place entry
      → IsOneTaken name entry.number entry.born now new middle after
      → AreTakenTo space first old new before after (place + 1)
  one_more_taken space first old now new before middle after place entry so inside at one =
      let was = at ∙ ap (λ (l : List FileEntry). get_or l place entry) (lists_stay space old now
      so.taken.1.rights.lists) in
      record {
        above = omega (arith, so.above);
        taken = (
          so.taken.0 ++ one.0,
          taken_then old now new before middle after so.taken.0 one.0 so.taken.1 one.1,
          map-append input_file so.taken.0 one.0
              ∙ (λ i. so.taken.2 i ++ one.2 i)
              ∙ sym (map-append listed (slice_range (entries_in space old) first place) (entry ∷ []))
              ∙ sym (ap (map listed) (run_more first place (entries_in space old) entry so.above inside was)),
        );
      }

  pub run_taken : (space : Space) (run : Run) (old now : KeptFiles) (before after : List (Input F S R P)) (place : ℕ)
      → AreTakenTo space run.first old now before after place → place ≤ run.end → run.end ≤ place
      → TakesEntries name (slice_range (entries_in space old) run.first run.end) old now before after
  run_taken space run old now before after place so upto end =
      let same : place ≡ run.end = omega (arith, upto, end) in
      subst (λ n. TakesEntries name (slice_range (entries_in space old) run.first n) old now before after) same so.taken

  pub one_failed : (space : Space) (first : ℕ) (old now new : KeptFiles) (before middle after : List (Input F S R P))
      (place : ℕ) → AreTakenTo space first old now before middle place → ChangesNoFile now new → after ≡ middle
      → TakesSomeInputs name old new before after
  one_failed space first old now new before middle after place so keeps same = (
    so.taken.0 ++ [],
    taken_then old now new before middle after so.taken.0 [] so.taken.1 (nothing_taken now new middle after keeps same),
  )

  -- ---- given back

  pub record AreReturned (all left : List (Input F S R P)) (old now : KeptFiles) : Type 0 where
    pub behind : List (Input F S R P)
    pub split : all ≡ left ++ behind
    pub given : GivesRights (input_numbers behind) old now
    pub held : AreHeld name now left

  pub none_returned : (all : List (Input F S R P)) (old : KeptFiles) → AreHeld name old all
      → AreReturned all all old old
  none_returned all old held = record {
    behind = [];
    split = sym (append-nil all);
    given = gives_none old old (nothing_changed old);
    held = held;
  }

  pub last_held : (all left front : List (Input F S R P)) (input : Input F S R P) (old now : KeptFiles)
      → AreReturned all left old now → left ≡ front ++ input ∷ [] → IsHeld name now input
  last_held all left front input old now returned last = (each_right (IsHeld name now) front (input ∷ [])
      (subst (AreHeld name now) last returned.held)).0

  pub one_returned : (all left front : List (Input F S R P)) (input : Input F S R P) (old now new : KeptFiles)
      → AreReturned all left old now → left ≡ front ++ input ∷ [] → GivesRights (input.number.0 ∷ []) now new
      → AreReturned all front old new
  one_returned all left front input old now new returned last given = record {
    behind = input ∷ returned.behind;
    split = returned.split ∙ ap (λ l. l ++ returned.behind) last ∙ append_assoc front (input ∷ []) returned.behind;
    given = gives_then (input_numbers returned.behind) (input.number.0 ∷ []) (input_numbers (input ∷
        returned.behind)) old
        now new counts returned.given given;
    held = held_stays (λ n. fewer_rights (count n (input.number.0 ∷ []))) (gives_names (input.number.0 ∷ [])) now new
        given front (each_left (IsHeld name now) front (input ∷ []) (subst (AreHeld name now) last returned.held));
  }
    where
      counts : (n : ℕ) → count n (input_numbers (input ∷ returned.behind))
          ≡ count n (input_numbers returned.behind) + count n (input.number.0 ∷ [])
      counts n = omega arith

  pub all_returned : (all left : List (Input F S R P)) (old now : KeptFiles) → AreReturned all left old now → left ≡ []
      → GivesRights (input_numbers all) old now
  all_returned all left old now returned none = subst (λ l. GivesRights (input_numbers l) old now)
      (sym (returned.split ∙ ap (λ l. l ++ returned.behind) none)) returned.given
