-- What the parts of a run say of the whole.
use Rattle.std.proofs.Common.{◌≡◌, inl, ℕ, ◌<◌, List, Some, arith}
use Rattle.std.specs.Prelude.{All, IfSome}
use Rattle.std.specs.Io.KnownBytes.{Appends}
use Rattle.std.proofs.Math.ListN.{get_or-map}
use Rattle.std.proofs.lemmas.List.{length-map}
use Rattle.tsdb_history.specs.History.{session_numbers}
use Rattle.tsdb_run.specs.Headline.{HasUnanswered, Headline, IsExecuted, WholeRun}
use Rattle.tsdb_run.specs.Output.{AppendsPrefix, output_text}
use Rattle.tsdb_run.specs.Steps.{IsRunOn, IsOutputWritten}
use Rattle.tsdb_run.specs.declared.status.Status.{Status}
use Rattle.tsdb_run.specs.declared.status.Status.TheVariants.{Done, Memory, Words, Script, Source, Sink, Device, Damaged}
use Rattle.tsdb_script.proofs.ReadingLemmas.{within_limits}
use Rattle.tsdb_script.specs.Reading.{IsScript}
use Rattle.tsdb_script.specs.declared.numbered.Numbered.{Numbered}
use Rattle.tsdb_run.specs.Words.{AreWords, Asked}

-- the sessions of a script have such numbers
pub small_sessions : (bytes : List ℕ) (script : List Numbered) → IsScript bytes script
    → All (λ numbered. numbered.session < session_numbers) script
small_sessions bytes script is = λ k numbered lt.
    let numbers = (within_limits bytes script is).numbers k numbered.session (omega (arith, length-map script (λ n. n.session))) in
    omega (arith, numbers.1, get_or-map (λ n. n.session) script k numbered)

-- a script that was executed, and what was written of its output
module _ (run : WholeRun) (script : List Numbered) (asked : Asked) (words : AreWords run.words asked)
    (directory : run.directory ≡ Some asked.directory) (read : IfSome run.left (λ bytes. IsScript bytes script))
    (done : IsRunOn script run.history run.old run.new (HasUnanswered run) run.faults_after) where
  executed : (puts : List ℕ → Type 0) → puts (output_text script run.history) → IsExecuted run puts
  executed puts printed = record {
    taken_up = (asked, words, directory);
    script = script;
    read = read;
    entries = done.entries;
    history_of = done.history_of;
    served = done.served;
    aside = done.aside;
    swept = done.swept;
    within = done.within;
    printed = printed;
  }

  pub headline_written : (status : Status) → IsOutputWritten status run.held run.holds (output_text script run.history)
      → Headline status run
  headline_written Done written = executed (Appends run.held run.holds) written
  headline_written Sink written = executed (AppendsPrefix run.held run.holds) written
  headline_written Memory written = inl (executed (AppendsPrefix run.held run.holds) written)
  headline_written Words written = absurd written
  headline_written (Script line kind) written = absurd written
  headline_written Source written = absurd written
  headline_written Device written = absurd written
  headline_written (Damaged part at) written = absurd written
