-- What the clauses of a run say by its status.
use Rattle.std.proofs.Common.{◌≡◌, ◌≢◌, ◌⊎◌, ◌∙◌, inl, inr, ℕ, ◌+◌, ◌<◌, ◌≤◌, List, [], Option, None, Some, refl, sym}
use Rattle.std.proofs.Common.{Result, Ok, Err, ap, arith, subst}
use Rattle.std.specs.Prelude.{◌↔◌, ◌-◌, ◌^◌, min, IfErr, IfSome}
use Rattle.tsdb_history.specs.History.{IsInLineOrder}
use Rattle.tsdb_history.specs.declared.told.Told.{Told}
use Rattle.tsdb_base.specs.Causes.{Rose}
use Rattle.tsdb_run.proofs.Refused.{idle, without_any}
use Rattle.tsdb_run.specs.Causes.{AreGoodWords, IsBeforeStore, IsDoneOrMemory, IsGoodScript, IsRefusedStore}
use Rattle.tsdb_run.specs.Causes.{ReportsBad, ReportsDamageOf, TellsDevice, TellsFaults}
use Rattle.tsdb_run.specs.Headline.{Headline, IsTakenUp, KeepsLineOrder}
use Rattle.tsdb_run.proofs.Prefix.{bad-line}
use Rattle.tsdb_run.specs.Input.{TakesScript}
use Rattle.tsdb_run.specs.Steps.{EndsInput, IsServedStatus, IsOutputWritten, script_status}
use Rattle.tsdb_run.specs.Store.{Contents}
use Rattle.tsdb_run.specs.declared.status.Status.{Status}
use Rattle.tsdb_run.specs.declared.status.Status.TheVariants.{Done, Memory, Words, Script, Source, Sink, Device, Damaged}
use Rattle.tsdb_script.proofs.ReadingLemmas.{not_both, same_first_bad, same_script}
use Rattle.tsdb_script.specs.Reading.{IsFirstBadLine, IsScript, RefusesScript}
use Rattle.tsdb_script.specs.declared.fault.ScriptFault.{ScriptFault}
use Rattle.tsdb_script.specs.declared.fault.ScriptFault.TheVariants as script_fault
use Rattle.tsdb_script.specs.declared.numbered.Numbered.{Numbered}
use Rattle.tsdb_run.specs.Words.{AreWords, Asked}

pub some_always : {X : Type 0} (P : X → Type 0) (o : Option X) → ((x : X) → P x) → IfSome o P
some_always P None each = tt
some_always P (Some x) each = each x

pub some_more : {X : Type 0} (P Q : X → Type 0) (o : Option X) → ((x : X) → P x → Q x) → IfSome o P → IfSome o Q
some_more P Q None more is = tt
some_more P Q (Some x) more is = more x is

-- the object did not fail
pub calm : (which status : Status) (before now : ℕ) → status ≢ which → now ≡ before
    → TellsFaults which status before now
calm which status before now other same =
    record { rose = λ is. absurd (other is); same = λ _. same; later = omega (arith, same) }

pub memory_no_source : ◌≢◌ {A = Status} Memory Source
memory_no_source same = cc

-- it failed
pub failed : (which : Status) (before now : ℕ) → Rose before now → before ≤ now → TellsFaults which which before now
failed which before now rose later =
    record { rose = λ is. rose; same = λ other. absurd (other refl); later = later }

-- what is said of a status is said of the one that is shown
pub shows_faults : (which status shown : Status) (before now : ℕ) → shown ≡ status
    → TellsFaults which status before now → TellsFaults which shown before now
shows_faults which status shown before now same tells = record {
  rose = λ is. tells.rose (sym same ∙ is);
  same = λ other. tells.same (λ is. other (same ∙ is));
  later = tells.later;
}

pub shows_device : (status shown : Status) (taken : Type 0) (before now : ℕ) → shown ≡ status
    → TellsDevice status taken before now → TellsDevice shown taken before now
shows_device status shown taken before now same tells = record {
  rose = λ is. tells.rose (sym same ∙ is);
  same = λ other. tells.same (λ is. other (same ∙ is));
  later = tells.later;
}

-- the store was taken up, and the output written or not
pub taken_device : (status : Status) (taken : Type 0) (before now : ℕ) (old new : Option (List ℕ)) (text : List ℕ)
    → IsOutputWritten status old new text → taken → before ≤ now → TellsDevice status taken before now
taken_device status taken before now old new text written is later = record {
  rose = λ same. absurd (subst (λ s. IsOutputWritten s old new text) same written);
  same = λ other. inl is;
  later = later;
}

-- ---- the taking up of a store

-- memory ran out before it
pub device_memory : (taken : Type 0) (before now : ℕ) → now ≡ before → TellsDevice Memory taken before now
device_memory taken before now same = record {
  rose = λ is. absurd cc;
  same = λ other. inr same;
  later = omega (arith, same);
}

-- it failed
pub device_failed : (taken : Type 0) (before now : ℕ) → Rose before now → before ≤ now
    → TellsDevice Device taken before now
device_failed taken before now rose later =
    record { rose = λ is. rose; same = λ other. absurd (other refl); later = later }

-- the store was taken up, and its parts, with their faults, put down
pub device_down : {T : Type 0} (result : Result T Status) (taken : Type 0) (old mid new journal files : ℕ) → old ≤ mid
    → mid ≤ new → min (mid + journal + files) (2 ^ 64 - 1) ≤ new → taken
    → IfErr result (λ status. status ≡ Device → 0 < journal + files)
    → IfErr result (λ status. TellsDevice status taken old new)
device_down (Ok value) taken old mid new journal files later last counts is told = tt
device_down (Err status) taken old mid new journal files later last counts is told = record {
  rose = λ same. omega (arith, later, counts, told same);
  same = λ other. inl is;
  later = omega (arith, later, last);
}

-- ---- the run ended before the store was taken up

module _ (words : List (List ℕ)) (left : Option (List ℕ)) where
  pub ends_words : (status : Status) → EndsInput words left status → (status ≡ Words) ↔ ¬ AreGoodWords words
  ends_words Words none = (λ same. none, λ bad. refl)
  ends_words Memory good = (λ same. absurd cc, λ bad. absurd (bad good))
  ends_words (Script line kind) is = (λ same. absurd cc, λ bad. absurd (bad is.0))
  ends_words Source good = (λ same. absurd cc, λ bad. absurd (bad good))
  ends_words Done is = absurd is
  ends_words Sink is = absurd is
  ends_words Device is = absurd is
  ends_words (Damaged part at) is = absurd is

  -- the script was not read
  pub ends_script : (new : Option (List ℕ)) (bytes : List ℕ) (fault : ScriptFault) → AreGoodWords words
      → TakesScript left new bytes → RefusesScript bytes fault → EndsInput words left (script_status fault)
  ends_script new bytes (script_fault.Bad line kind) good taken bad =
      (good, bad-line left new bytes taken line kind bad)
  ends_script new bytes script_fault.Memory good taken bad = good

  pub ends_good_words : (status : Status) → EndsInput words left status → status ≢ Words → AreGoodWords words
  ends_good_words Words none other = absurd (other refl)
  ends_good_words Memory good other = good
  ends_good_words (Script line kind) is other = is.0
  ends_good_words Source good other = good
  ends_good_words Done is other = absurd is
  ends_good_words Sink is other = absurd is
  ends_good_words Device is other = absurd is
  ends_good_words (Damaged part at) is other = absurd is

  pub ends_unrefused : (status : Status) → EndsInput words left status → ¬ IsRefusedStore status
  ends_unrefused status is (inl same) = subst (EndsInput words left) same is
  ends_unrefused status is (inr (part, at, same)) = subst (EndsInput words left) same is

  pub ends_headline : (place : Contents) (before now : ℕ) (directory : Option (List ℕ)) (status : Status)
      (history : List Told) (held : Option (List ℕ)) → EndsInput words left status → history ≡ []
      → Headline status (idle words left place before now directory history held)
  ends_headline place before now directory Words history held is none =
      without_any words left place before now directory history held none
  ends_headline place before now directory Memory history held is none =
      inr (without_any words left place before now directory history held none)
  ends_headline place before now directory (Script line kind) history held is none =
      (is.1, without_any words left place before now directory history held none)
  ends_headline place before now directory Source history held is none =
      without_any words left place before now directory history held none
  ends_headline place before now directory Done history held is none = absurd is
  ends_headline place before now directory Sink history held is none = absurd is
  ends_headline place before now directory Device history held is none = absurd is
  ends_headline place before now directory (Damaged part at) history held is none = absurd is

  same_line : (at which line kind : ℕ) → (at ≡ line) × (which ≡ kind) → Script at which ≡ Script line kind
  same_line at which line kind same = ap (λ n. Script n which) same.0 ∙ ap (Script line) same.1

  pub ends_first_bad : (status : Status) → EndsInput words left status → AreGoodWords words
      → IfSome left (λ bytes. (line kind : ℕ) → IsFirstBadLine bytes line kind → ReportsBad status line kind)
  ends_first_bad Words none good = absurd (none good)
  ends_first_bad Memory is good = some_always _ left (λ bytes line kind bad. inr (inl refl))
  ends_first_bad (Script at which) is good =
      some_more (λ bytes. IsFirstBadLine bytes at which)
      (λ bytes. (line kind : ℕ) → IsFirstBadLine bytes line kind → ReportsBad (Script at which) line kind) left
      (λ bytes first line kind bad. inl (same_line at which line kind
      (same_first_bad bytes at which line kind first bad))) is.1
  ends_first_bad Source is good = some_always _ left (λ bytes line kind bad. inr (inr refl))
  ends_first_bad Done is good = absurd is
  ends_first_bad Sink is good = absurd is
  ends_first_bad Device is good = absurd is
  ends_first_bad (Damaged part at) is good = absurd is

  -- a good script was not refused
  script_is_bad : (X : Type 0) (line kind : ℕ) → IfSome left (λ bytes. IsFirstBadLine bytes line kind)
      → IfSome left (λ bytes. IsGoodScript bytes → X)
  script_is_bad X line kind is =
      some_more (λ bytes. IsFirstBadLine bytes line kind) (λ bytes. IsGoodScript bytes → X) left
      (λ bytes bad good. absurd (not_both bytes good.0 line kind good.1 bad)) is

  pub ends_damaged : (place : Contents) (status : Status) → EndsInput words left status → AreGoodWords words
      → IfSome left (λ bytes. IsGoodScript bytes → ReportsDamageOf place status)
  ends_damaged place Words none good = absurd (none good)
  ends_damaged place Memory is good = some_always _ left (λ bytes script part at damaged. inr (inl refl))
  ends_damaged place (Script line kind) is good = script_is_bad (ReportsDamageOf place (Script line kind)) line kind is.1
  ends_damaged place Source is good = some_always _ left (λ bytes script part at damaged. inr (inr (inl refl)))
  ends_damaged place Done is good = absurd is
  ends_damaged place Sink is good = absurd is
  ends_damaged place Device is good = absurd is
  ends_damaged place (Damaged part at) is good = absurd is

  -- where the source did not fail
  pub ends_complete : (X : Type 0) (status : Status) → EndsInput words left status → (status ≡ Source → X)
      → AreGoodWords words → IfSome left (λ bytes. IsGoodScript bytes → ¬ X → IsDoneOrMemory status)
  ends_complete X Words none source good = absurd (none good)
  ends_complete X Memory is source good = some_always _ left (λ bytes script calm. inr refl)
  ends_complete X (Script line kind) is source good =
      script_is_bad (¬ X → IsDoneOrMemory (Script line kind)) line kind is.1
  ends_complete X Source is source good = some_always _ left (λ bytes script calm. absurd (calm (source refl)))
  ends_complete X Done is source good = absurd is
  ends_complete X Sink is source good = absurd is
  ends_complete X Device is source good = absurd is
  ends_complete X (Damaged part at) is source good = absurd is

-- ---- the commands of a script were read

module _ (left : Option (List ℕ)) (script : List Numbered) (read : IfSome left (λ bytes. IsScript bytes script)) where
  pub read_good : IfSome left IsGoodScript
  read_good = some_more (λ bytes. IsScript bytes script) IsGoodScript left (λ bytes is. (script, is)) read

  pub read_first_bad : (status : Status)
      → IfSome left (λ bytes. (line kind : ℕ) → IsFirstBadLine bytes line kind → ReportsBad status line kind)
  read_first_bad status =
      some_more (λ bytes. IsScript bytes script)
      (λ bytes. (line kind : ℕ) → IsFirstBadLine bytes line kind → ReportsBad status line kind) left
      (λ bytes is line kind bad. absurd (not_both bytes script line kind is bad)) read

-- the commands took place in the order of the script's lines
pub read_in_order : (left : Option (List ℕ)) (script : List Numbered) (history : List Told)
    → IfSome left (λ bytes. IsScript bytes script) → (history ≡ []) ⊎ IsInLineOrder script history
    → IfSome left (λ bytes. KeepsLineOrder bytes history)
read_in_order left script history read ordered =
    some_more (λ bytes. IsScript bytes script) (λ bytes. KeepsLineOrder bytes history) left
    (λ bytes is other also. subst (λ s. (history ≡ []) ⊎ IsInLineOrder s history)
    (same_script bytes script other is also) ordered) read

pub served_untouched : (status : Status) → IsServedStatus status → ¬ IsBeforeStore status
served_untouched status is (inl same) = subst IsServedStatus same is
served_untouched status is (inr (inl same)) = subst IsServedStatus same is
served_untouched status is (inr (inr (line, kind, same))) = subst IsServedStatus same is

-- nor is one refused whose output was written, or a part of it
pub written_unrefused : (status : Status) (old new : Option (List ℕ)) (text : List ℕ) → IsOutputWritten status old new text
    → ¬ IsRefusedStore status
written_unrefused status old new text is (inl same) = subst (λ s. IsOutputWritten s old new text) same is
written_unrefused status old new text is (inr (part, at, same)) = subst (λ s. IsOutputWritten s old new text) same is

pub served_complete : (X Y : Type 0) (status : Status) → IsServedStatus status → (status ≡ Sink → X)
    → (IsRefusedStore status → Y) → ¬ X → ¬ Y → IsDoneOrMemory status
served_complete X Y Done is sink store no_sink calm = inl refl
served_complete X Y Memory is sink store no_sink calm = inr refl
served_complete X Y Sink is sink store no_sink calm = absurd (no_sink (sink refl))
served_complete X Y Device is sink store no_sink calm = absurd (calm (store (inl refl)))
served_complete X Y (Damaged part at) is sink store no_sink calm = absurd (calm (store (inr (part, at, refl))))
served_complete X Y Words is sink store no_sink calm = absurd is
served_complete X Y (Script line kind) is sink store no_sink calm = absurd is
served_complete X Y Source is sink store no_sink calm = absurd is

-- the store of the directory that the words name
pub taken_up : (words : List (List ℕ)) (asked : Asked) (directory : Option (List ℕ)) (status : Status) (before now : ℕ)
    → AreWords words asked → TellsDevice status (directory ≡ Some asked.directory) before now
    → TellsDevice status (IsTakenUp words directory) before now
taken_up words asked directory status before now are tells = record {
  rose = tells.rose;
  same = λ other. by (tells.same other);
  later = tells.later;
}
  where
    by : (directory ≡ Some asked.directory) ⊎ (now ≡ before) → IsTakenUp words directory ⊎ (now ≡ before)
    by (inl taken) = inl (asked, are, taken)
    by (inr same) = inr same
