use Rattle.std.proofs.Common.{◌≡◌, ◌∙◌, Err, ap, subst, sym}
use Rattle.std.specs.Option.{IsSomeAnd}
use Rattle.tsdb_recover.specs.Adopting.{adopting_files, wanted_file}
use Rattle.tsdb_outside.specs.Disk.{WhereTold}
use Rattle.tsdb_outside.specs.Files.{PutsBack}
use Rattle.tsdb_recover.proofs.FileLemmas.{put_back}
use Rattle.tsdb_recover.specs.declared.fault.OpenFault.TheVariants.{Damaged}
use Rattle.tsdb_recover.proofs.AtRest.{no_more, same_files}
use Rattle.tsdb_recover.proofs.Next.{one_more, takes_up}
use Rattle.tsdb_recover.proofs.Trees.{bad_in}
use Rattle.tsdb_recover.proofs.taking.adopt_next.Goals as goal

pub adopt-requires-clause-wanted : goal.adopt-requires-clause-wanted
adopt-requires-clause-wanted g c κs within =
    let some = c.requires.some in
    record {
      recorded = some.0;
      is = some.1;
      wanted = subst (λ n. IsSomeAnd (wanted_file (adopting_files c.args.adopting.now) some.0.store)
          (λ wanted. wanted.1.number ≡ n)) (sym c.in-Ok.ensures.number) (c.requires.wanted some.0 some.1);
    }

pub returns-in-Ok-adopt-clause-taking : goal.returns-in-Ok-adopt-clause-taking
returns-in-Ok-adopt-clause-taking g c = λ stored recorded is up.
    takes_up stored c.args.number.0 (g.F.Sealed.SealedFile.file c.in-Ok.sealed) c.in-Ok.meta recorded.store
    (adopting_files c.args.adopting.now) (adopting_files c.adopt.new.self) c.in-Ok.ensures.number (c.requires.wanted recorded is)
    (c.in-Ok-adopt.ensures.adopted recorded is) (g.F.Files.at_rest c.args.files.now)
    (g.F.Files.at_rest c.fetch_whole.new.files) c.in-Ok.ensures.taken
    (sym (g.F.Files.tells c.args.files.now) ∙ ap (λ store. store.tells) (sym c.in-Ok.ensures.store)
    ∙ g.F.Sealed.SealedFile.tells c.in-Ok.sealed) c.in-Ok.ensures.whole c.in-Ok.ensures.tree c.in-Ok-adopt.ensures.told
    (λ told order read says. c.in-Ok-adopt.ensures.described recorded told is order read says) up

pub returns-in-Ok-adopt-clause-one_more : goal.returns-in-Ok-adopt-clause-one_more
returns-in-Ok-adopt-clause-one_more g c =
    one_more (g.F.Sealed.SealedFile.file c.in-Ok.sealed) c.in-Ok.meta c.requires.some.0.store
    (adopting_files c.args.adopting.now) (adopting_files c.adopt.new.self)
    (c.in-Ok-adopt.ensures.adopted c.requires.some.0 c.requires.some.1)

pub returns-in-Ok-clause-taking : goal.returns-in-Ok-clause-taking
returns-in-Ok-clause-taking g c = λ stored recorded is up.
    let rest = g.F.Files.at_rest c.args.files.now in
    let mid = g.F.Files.at_rest c.fetch_whole.new.files in
    let now = g.F.Files.at_rest c.keep.new.self in
    no_more stored recorded.store (adopting_files c.args.adopting.now) (adopting_files c.adopt.new.self) rest now
    c.in-Err-adopt.ensures.same
    (put_back (g.F.Sealed.SealedFile.file c.in-Ok.sealed) rest mid now c.in-Ok.ensures.taken
    (subst (λ sealed. WhereTold (PutsBack (g.F.Sealed.SealedFile.file sealed)) mid now) c.in-Err-adopt.ensures.token
    c.keep.ensures.stays)
    (sym (g.F.Files.tells c.args.files.now) ∙ ap (λ store. store.tells) (sym c.in-Ok.ensures.store)
    ∙ g.F.Sealed.SealedFile.tells c.in-Ok.sealed)) up

pub returns-clause-taking : goal.returns-clause-taking
returns-clause-taking g c = λ stored recorded is up.
    same_files stored recorded.store (adopting_files c.args.adopting.now) (g.F.Files.at_rest c.args.files.now)
    (g.F.Files.at_rest c.fetch_whole.new.files) c.in-Err.ensures.put_back up

pub returns-clause-damaged : goal.returns-clause-damaged
returns-clause-damaged g c = λ part at is.
    let same : c.in-Err.fault ≡ Damaged part at = cc in
    let found = c.in-Err.ensures.damaged part at (ap (λ fault. Err fault) same) in (
      found.0,
      λ stored up none. bad_in stored (adopting_files c.args.adopting.now) (g.F.Files.at_rest c.args.files.now)
          c.args.number.0 at found.1 up none,
    )
