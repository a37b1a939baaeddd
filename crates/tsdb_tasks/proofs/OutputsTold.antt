-- An engine is stored with the output that was built for a compaction that is out.
use Rattle.std.proofs.Common.{◌≡◌, ℕ, ◌+◌, ◌≤◌, List, [], ◌∷◌, ◌++◌, Some, inl, inr}
use Rattle.std.proofs.Common.{arith, refl, sym, subst, ◌∙◌}
use Rattle.std.specs.List.{AllByRecursion as Each}
use Rattle.std.specs.Prelude.{◌↔◌}
use Rattle.tsdb_tasks.proofs.Doubts.{told_elsewhere}
use Rattle.tsdb_tasks.proofs.Numbers.{at_itself, at_other, kept_new, kept_other}
use Rattle.tsdb_tasks.specs.Files.{NewFile, at_file, kept_with, known_entry, file_number}
use Rattle.tsdb_state.proofs.ImageLemmas.Kept.{whole_as}
use Rattle.tsdb_state.specs.StoredEngine.{IsKeptWhole, kept_bytes}
use Rattle.tsdb_base.proofs.Lists.{among_left, among_map, among_right, each_among, each_from_among}
use Rattle.tsdb_base.specs.Lists.{Among, IsWithOne, count}
use Rattle.tsdb_state.specs.Places.{Content, PointPlace}
use Rattle.tsdb_memory.specs.LogState.{IsStoredIn, Outside}
use Rattle.tsdb_model.specs.World.{World}
use Rattle.tsdb_tasks.specs.Outputs.{IsNewOutput, only_output, output_file, with_output}
use Rattle.tsdb_state.specs.Stores.{IsTreeContent}
use Rattle.tsdb_state.proofs.Fresh.{count_here}
use Rattle.tsdb_state.proofs.Numbering.{count_drawn, count_map_one}
use Rattle.tsdb_state.proofs.Told.{value_same}
use Rattle.tsdb_state.specs.Order.{all_files}
use Rattle.tsdb_state.specs.Records as records
use Rattle.tsdb_state.specs.State.{Compaction, EngineState, File, ToldContents}
use Rattle.tsdb_state.specs.Worlds.{StandsFor, value_at_place}

counted : (n : ℕ) (xs : List ℕ) → Among n xs → 1 ≤ count n xs
counted n [] among = absurd among
counted n (x ∷ xs) (inl is) = subst (λ x. 1 ≤ count n (x ∷ xs)) (sym is) (omega (arith, count_here n xs))
counted n (x ∷ xs) (inr among) = let rest = counted n xs among in omega (arith, rest)

module _ (outside : Outside) (engine : EngineState) (job : Compaction) (others : List Compaction)
    (stored : IsStoredIn outside engine) (out : IsWithOne job others engine.compactions) where
  -- the number of the output is that of no file
  pub not_a_file : (file : File) → Among file (all_files engine) → file.number ≡ job.output → ⊥
  not_a_file file there same =
      let number : ℕ = job.output in
      let once = stored.order.numbers.differ number in
      let drawn = count_drawn number engine.flushes engine.compactions in
      let mine = count_map_one (λ (c : Compaction). c.output) number job others engine.compactions out in
      let here = count_here number [] in
      let other = subst (λ n. 1 ≤ count n (records.numbers_of (all_files engine))) same
      (counted file.number (records.numbers_of (all_files engine))
      (among_map (λ (f : File). f.number) (all_files engine) file there)) in
      omega (arith, once, drawn, mine, here, other)

  module _ (content : Content) (file : NewFile) (is : IsNewOutput outside.told job content file) where
    abbrev told : ToldContents
    told = at_file (Some file) (λ f. content) outside.told

    not_new : (f : File) → Among f (all_files engine) → Among f.number (file_number file ∷ []) → ⊥
    not_new f there (inl same) = not_a_file f there (sym same ∙ is.number_is)
    not_new f there (inr never) = absurd never

    pub told_same : (f : File) → Among f (all_files engine) → outside.told f.number ≡ told f.number
    told_same f there = sym (at_other (Some file) (λ f. content) outside.told f.number (not_new f there))

    known_same : (f : File) → Among f (all_files engine)
        → outside.known f.number ≡ at_file (Some file) known_entry outside.known f.number
    known_same f there = sym (at_other (Some file) known_entry outside.known f.number (not_new f there))

    pub stored_with : IsStoredIn (with_output content file outside) engine
    stored_with = record {
      named = stored.named;
      good = stored.good;
      replayed = stored.replayed;
      order = told_elsewhere outside.told told outside.known (at_file (Some file) known_entry outside.known)
          stored.named engine stored.order (each_from_among _ (all_files engine) told_same)
          (each_from_among _ (engine.store.sequence ++ engine.store.unsequence) (λ f there. known_same f
          (among_left (engine.store.sequence ++ engine.store.unsequence) engine.outgoing f there)));
      whole = each_from_among _ (all_files engine) (λ f there. whole_as (kept_bytes outside.kept)
          (kept_bytes (kept_with (only_output file) outside.kept)) outside.told told f f refl (told_same f there)
          (λ bytes as_kept. kept_other (only_output file) outside.kept f.number (not_new f there) ∙ as_kept)
          (each_among (IsKeptWhole outside.kept outside.told) (all_files engine) f stored.whole there));
      doubt = stored.doubt;
    }

    value_with : (place : PointPlace) → value_at_place outside.told engine.store place ≡ value_at_place told engine.store place
    value_with place = value_same outside.told told engine.store
        (each_from_among _ engine.store.sequence (λ f there. told_same f
        (among_left (engine.store.sequence ++ engine.store.unsequence) engine.outgoing f
        (among_left engine.store.sequence engine.store.unsequence f there))))
        (each_from_among _ engine.store.unsequence (λ f there. told_same f
        (among_left (engine.store.sequence ++ engine.store.unsequence) engine.outgoing f
        (among_right engine.store.sequence engine.store.unsequence f there)))) place

    pub worlds_with : (world : World) → StandsFor outside.told engine.store world
        ↔ StandsFor (with_output content file outside).told engine.store world
    worlds_with world = (
      λ stands. record { types = stands.types; values = λ place. stands.values place ∙ value_with place },
      λ stands. record { types = stands.types; values = λ place. stands.values place ∙ sym (value_with place) },
    )

    pub told_output : told (file_number file) ≡ content
    told_output = at_itself file (λ f. content) outside.told

    pub known_output : at_file (Some file) known_entry outside.known (file_number file) ≡ known_entry file
    known_output = at_itself file known_entry outside.known

    pub output_kept : Each (IsKeptWhole (kept_with (only_output file) outside.kept) told) (output_file file)
    output_kept = (
      record {
        bytes = is.bytes;
        tree = is.tree;
        there = kept_new (only_output file) outside.kept file is.bytes (tt, tt) (inl refl) is.tells;
        is_tree = is.is_tree;
        is_made = is.is_made;
        is_file = is.is_file;
        content = subst (IsTreeContent is.tree) (sym told_output) is.content_is;
      },
      tt,
    )
