use Rattle.std.proofs.Common.{◌≡◌, subst, sym}
use Rattle.std.specs.Prelude.{IfSome}
use Rattle.tsdb_tasks.specs.Files.{file_built, new_files}
use Rattle.std.specs.Option.{option_map}
use Rattle.tsdb_core.proofs.OutputsBuilt.{all_drawn, all_fresh, drawn_part, sequence_in_store, sequence_numbered}
use Rattle.tsdb_core.proofs.OutputsBuilt.{unsequence_in_store, unsequence_numbered}
use Rattle.tsdb_core.specs.Core.{store_of}
use Rattle.tsdb_core.proofs.Commits.{ends_flush, first_place, first_room, second_place, second_room}
use Rattle.tsdb_core.proofs.Loans.{unread_yet}
use Rattle.tsdb_core.proofs.engine.Core.end_flush.Goals as goal

pub returns-clause-ends : goal.returns-clause-ends
returns-clause-ends g c = ends_flush c.args.self.now c.args.job.now (new_files g.F.Sealed.SealedFile.file c.args.files)
    c.args.commit c.end_part.new.files c.end_part-2.new.files c.requires.out c.end_part.ensures c.end_part-2.ensures
    (drawn_part g.F.Sealed.SealedFile.file g.F.Sealed.SealedFile.rights c.args.job.now.sequence c.args.files.sequence
    (sequence_numbered g.F.Sealed.SealedFile.file g.F.Sealed.SealedFile.rights (store_of c.args.self.now)
    c.args.job.now c.args.files c.requires.done))
    (all_drawn g.F.Sealed.SealedFile.file g.F.Sealed.SealedFile.rights (store_of c.args.self.now) c.args.job.now
    c.args.files c.requires.done)
    (unread_yet g.F.Sealed.SealedFile.file c.args.files)
    (all_fresh g.F.Sealed.SealedFile.file g.F.Sealed.SealedFile.rights (store_of c.args.self.now) c.args.job.now
    c.args.files c.requires.done)
    c.below_after-self.result c.below_after-self.ensures

pub end_part-requires-clause-place : goal.end_part-requires-clause-place
end_part-requires-clause-place g c = λ lifetimes lives. first_place c.args.self.now c.args.job.now c.requires.out

pub end_part-requires-clause-room : goal.end_part-requires-clause-room
end_part-requires-clause-room g c = λ lifetimes lives. first_room c.args.self.now c.args.job.now c.requires.out

pub end_part-requires-clause-numbered : goal.end_part-requires-clause-numbered
end_part-requires-clause-numbered g c = λ lifetimes lives. sequence_numbered g.F.Sealed.SealedFile.file
    g.F.Sealed.SealedFile.rights (store_of c.args.self.now) c.args.job.now c.args.files c.requires.done

pub end_part-requires-clause-store : goal.end_part-requires-clause-store
end_part-requires-clause-store g c = λ lifetimes lives. sequence_in_store g.F.Sealed.SealedFile.file
    g.F.Sealed.SealedFile.rights (store_of c.args.self.now) c.args.job.now c.args.files c.requires.done

pub end_part-requires-2-clause-place : goal.end_part-requires-2-clause-place
end_part-requires-2-clause-place g c = λ lifetimes lives. second_place c.args.self.now c.args.job.now c.requires.out
    c.args.commit (option_map (file_built g.F.Sealed.SealedFile.file) c.args.files.sequence) c.end_part.new.files
    c.end_part.ensures

pub end_part-requires-2-clause-room : goal.end_part-requires-2-clause-room
end_part-requires-2-clause-room g c = λ lifetimes lives. second_room c.args.self.now c.args.job.now c.requires.out
    c.args.commit (option_map (file_built g.F.Sealed.SealedFile.file) c.args.files.sequence) c.end_part.new.files
    c.end_part.ensures

pub end_part-requires-2-clause-numbered : goal.end_part-requires-2-clause-numbered
end_part-requires-2-clause-numbered g c = λ lifetimes lives. unsequence_numbered g.F.Sealed.SealedFile.file
    g.F.Sealed.SealedFile.rights (store_of c.args.self.now) c.args.job.now c.args.files c.requires.done

pub end_part-requires-2-clause-store : goal.end_part-requires-2-clause-store
end_part-requires-2-clause-store g c = λ lifetimes lives.
    subst (λ store. IfSome c.args.files.unsequence (λ one. (g.F.Sealed.SealedFile.file one.sealed).store ≡ store))
    (sym c.end_part.ensures.store)
    (unsequence_in_store g.F.Sealed.SealedFile.file g.F.Sealed.SealedFile.rights (store_of c.args.self.now)
    c.args.job.now c.args.files c.requires.done)
