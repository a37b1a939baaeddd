-- How the parts of a flush end among the kept files.
use Rattle.std.proofs.Common.{◌≡◌, ◌≢◌, ℕ, [], ◌∷◌, ◌++◌, map, Option, None, Some, inl, inr}
use Rattle.std.proofs.Common.{ap, append_assoc, refl, sym, subst, ◌∙◌}
use Rattle.std.proofs.lemmas.List.{append-nil, map-append}
use Rattle.std.specs.List.{AllByRecursion as Each}
use Rattle.std.specs.Option.{option_map}
use Rattle.std.specs.Prelude.{◌⊎◌}
use Rattle.tsdb_base.specs.declared.ids.FileNumber.{FileNumber}
use Rattle.tsdb_base.specs.declared.ids.Space.{Space}
use Rattle.tsdb_base.specs.declared.ids.Space.TheVariants.{Sequence, Unsequence}
use Rattle.tsdb_tasks.specs.Coming.{AreSentOut, HaveCome, StandLast, outgoing_of}
use Rattle.tsdb_tasks.specs.Files.{NewFile, NewFiles, file_number, built_numbers}
use Rattle.tsdb_core.specs.Ending.{AreAfterCommit, PartEnds, less_if, numbers_if, only}
use Rattle.tsdb_core.specs.declared.commit.Commit.{Commit}
use Rattle.tsdb_core.specs.declared.commit.Commit.TheVariants.{Device, Done, Gone}
use Rattle.tsdb_fileset.specs.Files.{Appends, KeepsLists, KeptFiles, kept_file}
use Rattle.tsdb_fileset.specs.Places.{OthersStay, file_at, place_of_number}
use Rattle.tsdb_fileset.specs.Room.{less_room}
use Rattle.tsdb_base.proofs.Lists.{among_left, among_right, each_append, each_among, each_from_among, each_left}
use Rattle.tsdb_base.specs.Lists.{Among, if_some}

abbrev pub plain : Option FileNumber → Option ℕ
plain number = option_map (λ (n : FileNumber). n.0) number

pub some_is : (a b : ℕ) → Some a ≡ Some b → a ≡ b
some_is a b same = cc

-- ---- one part

module _ (old new : KeptFiles) where
  -- a token is put at its place
  one_come : (space : Space) (number : Option FileNumber) (file : NewFile) → plain number ≡ Some (file_number file)
      → kept_file (file_number file) new ≡ Some file.token → OthersStay (file_number file) old.places new.places
      → HaveCome (numbers_if number) (only space (Some file)) old new
  one_come space None file is kept others = absurd cc
  one_come space (Some number) file is kept others = by space
    where
      same : file_number file ≡ number.0
      same = sym (some_is number.0 (file_number file) is)

      stay : (n : ℕ) → (Among n (number.0 ∷ []) → ⊥) → place_of_number n new.places ≡ place_of_number n old.places
      stay n never = others n (λ is. never (inl (sym same ∙ is)))

      by : (space : Space) → HaveCome (number.0 ∷ []) (only space (Some file)) old new
      by Sequence = record { kept = (kept, tt); gone = (inl (inl same), tt); others = stay }
      by Unsequence = record { kept = (kept, tt); gone = (inl (inl same), tt); others = stay }

  less_of : (space : Space) (number : Option FileNumber) (n : ℕ) → plain number ≡ Some n
      → new.spare ≡ less_room space old.spare → new.spare ≡ less_if space number old.spare
  less_of space None n is room = absurd cc
  less_of space (Some number) n is room = room

  pub part_listed : (space : Space) (number : Option FileNumber) (file : NewFile) → plain number ≡ Some (file_number file)
      → Appends space file.entry old new → new.outgoing ≡ old.outgoing
      → kept_file (file_number file) new ≡ Some file.token → OthersStay (file_number file) old.places new.places
      → new.spare ≡ less_room space old.spare → new.store ≡ old.store
      → PartEnds Done space number (Some file) old new
  part_listed space number file is appends outgoing kept others room store = record {
    come = one_come space number file is kept others;
    lists = last space appends;
    room = less_of space number (file_number file) is room;
    store = store;
  }
    where
      last : (space : Space) → Appends space file.entry old new → StandLast (only space (Some file)) old new
      last Sequence at = record {
        sequence = at.0;
        unsequence = at.1 ∙ sym (append-nil old.unsequence);
        outgoing = outgoing;
      }
      last Unsequence at = record {
        sequence = at.0 ∙ sym (append-nil old.sequence);
        unsequence = at.1;
        outgoing = outgoing;
      }

  sent : (space : Space) (file : NewFile) → new.sequence ≡ old.sequence → new.unsequence ≡ old.unsequence
      → new.outgoing ≡ old.outgoing ++ outgoing_of file ∷ [] → AreSentOut (only space (Some file)) old new
  sent Sequence file sequence unsequence outgoing =
      record { sequence = sequence; unsequence = unsequence; outgoing = outgoing }
  sent Unsequence file sequence unsequence outgoing =
      record { sequence = sequence; unsequence = unsequence; outgoing = outgoing }

  pub part_sent : (commit : Commit) → commit ≢ Done → (space : Space) (number : Option FileNumber) (file : NewFile)
      → plain number ≡ Some (file_number file) → new.sequence ≡ old.sequence → new.unsequence ≡ old.unsequence
      → new.outgoing ≡ old.outgoing ++ outgoing_of file ∷ [] → kept_file (file_number file) new ≡ Some file.token
      → OthersStay (file_number file) old.places new.places → new.spare ≡ less_room space old.spare
      → new.store ≡ old.store → PartEnds commit space number (Some file) old new
  part_sent Done not space number file is sequence unsequence outgoing kept others room store = absurd (not refl)
  part_sent Gone not space number file is sequence unsequence outgoing kept others room store = record {
    come = one_come space number file is kept others;
    lists = sent space file sequence unsequence outgoing;
    room = less_of space number (file_number file) is room;
    store = store;
  }
  part_sent Device not space number file is sequence unsequence outgoing kept others room store = record {
    come = one_come space number file is kept others;
    lists = sent space file sequence unsequence outgoing;
    room = less_of space number (file_number file) is room;
    store = store;
  }

  -- no list changes
  same_lists : (commit : Commit) (space : Space) → KeepsLists old new → AreAfterCommit commit (only space None) old new
  same_lists commit space lists = by commit space
    where
      last : StandLast (record { sequence = None; unsequence = None }) old new
      last = record {
        sequence = lists.sequence ∙ sym (append-nil old.sequence);
        unsequence = lists.unsequence ∙ sym (append-nil old.unsequence);
        outgoing = lists.outgoing;
      }

      out : AreSentOut (record { sequence = None; unsequence = None }) old new
      out = record {
        sequence = lists.sequence;
        unsequence = lists.unsequence;
        outgoing = lists.outgoing ∙ sym (append-nil old.outgoing);
      }

      by : (commit : Commit) (space : Space) → AreAfterCommit commit (only space None) old new
      by Done Sequence = last
      by Done Unsequence = last
      by Gone Sequence = out
      by Gone Unsequence = out
      by Device Sequence = out
      by Device Unsequence = out

  pub part_given_up : (commit : Commit) (space : Space) (number : FileNumber) → KeepsLists old new
      → place_of_number number.0 new.places ≡ None → OthersStay number.0 old.places new.places
      → new.spare ≡ less_room space old.spare → PartEnds commit space (Some number) None old new
  part_given_up commit space number lists none others room = record {
    come = by space;
    lists = same_lists commit space lists;
    room = room;
    store = lists.store;
  }
    where
      stay : (n : ℕ) → (Among n (number.0 ∷ []) → ⊥) → place_of_number n new.places ≡ place_of_number n old.places
      stay n never = others n (λ is. never (inl is))

      by : (space : Space) → HaveCome (number.0 ∷ []) (only space None) old new
      by Sequence = record { kept = tt; gone = (inr none, tt); others = stay }
      by Unsequence = record { kept = tt; gone = (inr none, tt); others = stay }

-- a part without a number changes nothing
pub no_part : (files : KeptFiles) (commit : Commit) (space : Space) → PartEnds commit space None None files files
no_part files commit space = record {
  come = by space;
  lists = same_lists files files commit space
      (record { store = refl; sequence = refl; unsequence = refl; outgoing = refl });
  room = refl;
  store = refl;
}
  where
    by : (space : Space) → HaveCome [] (only space None) files files
    by Sequence = record { kept = tt; gone = tt; others = λ n never. refl }
    by Unsequence = record { kept = tt; gone = tt; others = λ n never. refl }

-- ---- both parts

module _ (commit : Commit) (s u : Option FileNumber) (f g : Option NewFile) (old mid new : KeptFiles)
    (first : PartEnds commit Sequence s f old mid) (second : PartEnds commit Unsequence u g mid new) where
  abbrev files : NewFiles
  files = record { sequence = f; unsequence = g }

  module _ (apart : (n : ℕ) → Among n (numbers_if s) → Among n (numbers_if u) → ⊥)
      (drawn : Each (λ file. Among (file_number file) (numbers_if s)) (if_some f)) where
    -- a number of the first part keeps its place in the second
    stays : (n : ℕ) → Among n (numbers_if s) → place_of_number n new.places ≡ place_of_number n mid.places
    stays n among = second.come.others n (apart n among)

    pub both_come : HaveCome (numbers_if s ++ numbers_if u) files old new
    both_come = record {
      kept = each_append (λ file. kept_file (file_number file) new ≡ Some file.token) (if_some f) (if_some g)
          (each_from_among _ (if_some f) (λ file there.
          ap file_at (stays (file_number file) (each_among _ (if_some f) file drawn there))
          ∙ each_among (λ file. kept_file (file_number file) mid ≡ Some file.token) (if_some f) file
          (each_left _ (if_some f) [] first.come.kept) there))
          second.come.kept;
      gone = each_append _ (numbers_if s) (numbers_if u)
          (each_from_among _ (numbers_if s) (λ n there. of_first n there (each_among _ (numbers_if s) n first.come.gone
          there)))
          (each_from_among _ (numbers_if u) (λ n there. of_second n (each_among _ (numbers_if u) n second.come.gone
          there)));
      others = λ n never. second.come.others n (λ among. never (among_right (numbers_if s) (numbers_if u) n among))
          ∙ first.come.others n (λ among. never (among_left (numbers_if s) (numbers_if u) n among));
    }
      where
        all : map file_number (if_some f ++ if_some g) ≡ map file_number (if_some f) ++ map file_number (if_some g)
        all = map-append file_number (if_some f) (if_some g)

        of_first : (n : ℕ) → Among n (numbers_if s)
            → Among n (map file_number (if_some f ++ [])) ⊎ (place_of_number n mid.places ≡ None)
            → Among n (built_numbers files) ⊎ (place_of_number n new.places ≡ None)
        of_first n there (inl among) = inl (subst (Among n) (sym all)
            (among_left (map file_number (if_some f)) (map file_number (if_some g)) n
            (subst (λ list. Among n (map file_number list)) (append-nil (if_some f)) among)))
        of_first n there (inr none) = inr (stays n there ∙ none)

        of_second : (n : ℕ) → Among n (map file_number (if_some g)) ⊎ (place_of_number n new.places ≡ None)
            → Among n (built_numbers files) ⊎ (place_of_number n new.places ≡ None)
        of_second n (inl among) = inl (subst (Among n) (sym all)
            (among_right (map file_number (if_some f)) (map file_number (if_some g)) n among))
        of_second n (inr none) = inr none

  pub both_lists : AreAfterCommit commit files old new
  both_lists = by commit first.lists second.lists
    where
      sent_both : AreSentOut (only Sequence f) old mid → AreSentOut (only Unsequence g) mid new → AreSentOut files old
          new
      sent_both one other = record {
        sequence = other.sequence ∙ one.sequence;
        unsequence = other.unsequence ∙ one.unsequence;
        outgoing = other.outgoing ∙ ap (λ list. list ++ map outgoing_of (if_some g)) one.outgoing
            ∙ ap (λ list. (old.outgoing ++ map outgoing_of list) ++ map outgoing_of (if_some g)) (append-nil (if_some
            f))
            ∙ append_assoc old.outgoing (map outgoing_of (if_some f)) (map outgoing_of (if_some g))
            ∙ ap (λ list. old.outgoing ++ list) (sym (map-append outgoing_of (if_some f) (if_some g)));
      }

      by : (commit : Commit) → AreAfterCommit commit (only Sequence f) old mid
          → AreAfterCommit commit (only Unsequence g) mid new → AreAfterCommit commit files old new
      by Done one other = record {
        sequence = other.sequence ∙ append-nil mid.sequence ∙ one.sequence;
        unsequence = other.unsequence ∙ ap (λ list. list ++ map (λ file. file.entry) (if_some g))
            (one.unsequence ∙ append-nil old.unsequence);
        outgoing = other.outgoing ∙ one.outgoing;
      }
      by Gone one other = sent_both one other
      by Device one other = sent_both one other
