use Rattle.std.proofs.Common.{◌∙◌, ap, sym}
use Rattle.tsdb_recover.proofs.FileLemmas.{bad, in_some, match_some, on_error, put_back}
use Rattle.tsdb_recover.proofs.files.fetch_whole.Goals as goal

pub returns-in-Ok-Some-clause-damaged : goal.returns-in-Ok-Some-clause-damaged
returns-in-Ok-Some-clause-damaged g c = λ part at is.
    let found = c.read_whole.ensures.damaged part at is in
    let sealed = c.in-Ok-Some.sealed in
    let some = c.in-Ok-Some.field-0-is in (
      found.0,
      bad (g.F.Sealed.SealedFile.file sealed) c.args.number.0
          (in_some c.in-Ok-Some.field-0 sealed _ some c.in-Ok-Some.ensures.number).0
          (g.F.Files.at_rest c.args.files.now) (g.F.Files.at_rest c.fetch.new.self) at
          (match_some c.in-Ok-Some.field-0 sealed _ _ some c.in-Ok-Some.ensures.none)
          (sym (g.F.Files.tells c.args.files.now)
          ∙ ap (λ store. store.tells) (sym (in_some c.in-Ok-Some.field-0 sealed _ some c.in-Ok-Some.ensures.store))
          ∙ g.F.Sealed.SealedFile.tells sealed) found.1 found.2,
    )

pub returns-in-Ok-Some-clause-put_back : goal.returns-in-Ok-Some-clause-put_back
returns-in-Ok-Some-clause-put_back g c =
    let sealed = c.in-Ok-Some.sealed in
    let some = c.in-Ok-Some.field-0-is in
    on_error c.read_whole.result _ _ (λ back. put_back (g.F.Sealed.SealedFile.file sealed)
    (g.F.Files.at_rest c.args.files.now) (g.F.Files.at_rest c.fetch.new.self) (g.F.Files.at_rest c.read_whole.new.files)
    (match_some c.in-Ok-Some.field-0 sealed _ _ some c.in-Ok-Some.ensures.none) back
    (sym (g.F.Files.tells c.args.files.now)
    ∙ ap (λ store. store.tells) (sym (in_some c.in-Ok-Some.field-0 sealed _ some c.in-Ok-Some.ensures.store))
    ∙ g.F.Sealed.SealedFile.tells sealed)) c.read_whole.ensures.back
