use Rattle.std.proofs.Common.{◌≡◌, [], map, None, sym, subst}
use Rattle.tsdb_recover.proofs.AdoptedCore.{above_kept, opened_files, same_wanted, stored_opened}
use Rattle.tsdb_fileset.specs.Files.{KeptFiles}
use Rattle.tsdb_recover.specs.Adopting.{HaveNoClaims, adopting_files, opening_of}
use Rattle.tsdb_recover.specs.FileEntries.{known_of}
use Rattle.tsdb_core.specs.Core.{IsSeen}
use Rattle.tsdb_frames.specs.Frames.{IsLog}
use Rattle.tsdb_log.specs.Spelling.{spelling}
use Rattle.tsdb_memory.specs.LogState.{Outside}
use Rattle.tsdb_memory.specs.StateOfMemory.{IsMemoryOf}
use Rattle.tsdb_state.specs.NewStore.{opened}
use Rattle.tsdb_recover.proofs.adopting.Adopting.finish.Goals as goal

pub returns-clause-quiet : goal.returns-clause-quiet
returns-clause-quiet g c =
    let all = c.requires.all in
    c.new.ensures.quiet (above_kept (adopting_files c.args.self) all.is.items all.recorded c.args.stored
    c.next_file-next_file.result.0 c.sound.ensures.kept all.is.replayed all.is.first
    (c.next_file-next_file.ensures.number all.recorded all.is.opening) c.next_file-next_file.ensures.end)

pub returns-clause-seen : goal.returns-clause-seen
returns-clause-seen g c = λ items recorded kept told log good replayed is order whole says tell.
    let files = adopting_files c.args.self in
    let next = c.next_file-next_file.result.0 in
    let number = c.next_file-next_file.ensures.number recorded is.opening in
    let end = c.next_file-next_file.ensures.end in
    let none = same_wanted files (opening_of c.args.self) c.requires.all.recorded recorded c.requires.all.is.opening
    is.opening c.requires.all.all in
    let outside : Outside = record { items = items; kept = kept; told = told; known = known_of files } in
    subst (λ n. IsSeen c.new.result outside (opened n recorded.store)) (sym c.new.ensures.next)
    (c.new.ensures.opened outside recorded.store
    (above_kept files items recorded c.args.stored next c.sound.ensures.kept replayed is.first number end)
    (record {
      memory = subst (λ memory. IsMemoryOf memory recorded.store) (sym c.new-logged.ensures.memory)
          (c.into_memory.ensures recorded is.opening);
      log = record {
        log = subst (λ frames. IsLog frames (map spelling items) None) (sym c.new-logged.ensures.log) log;
        named = tt;
      };
      stored = stored_opened items kept told files recorded c.args.stored next good replayed order whole number end
          c.sound.ensures.kept is.first none says;
    })
    (opened_files files recorded.store next c.sound.ensures.kept is.first none) tell)

pub returns-clause-unclaimed : goal.returns-clause-unclaimed
returns-clause-unclaimed g c = record {
  list = c.new.ensures.claims;
  files = subst HaveNoClaims (sym c.new.ensures.files) c.requires.all.is.first.free;
}

pub returns-clause-none_leaving : goal.returns-clause-none_leaving
returns-clause-none_leaving g c = subst (λ (files : KeptFiles). files.outgoing ≡ []) (sym c.new.ensures.files)
    c.requires.all.is.first.outgoing

pub returns-clause-kept : goal.returns-clause-kept
returns-clause-kept g c = c.sound.ensures.kept
