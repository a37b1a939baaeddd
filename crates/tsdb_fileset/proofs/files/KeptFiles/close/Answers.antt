use Rattle.std.proofs.Common.{◌≡◌, sym, subst}
use Rattle.tsdb_fileset.specs.Files.{KeptFiles}
use Rattle.tsdb_fileset.specs.Places.{AreOfStore, AreUnread}
use Rattle.tsdb_fileset.proofs.files.KeptFiles.close.Goals as goal

pub keep_files-requires-clause-no_rights : goal.keep_files-requires-clause-no_rights
keep_files-requires-clause-no_rights g c κs within =
    let Unread : KeptFiles → Type 0 = λ files. AreUnread files.places in
    subst Unread (sym c.self.view_is) c.requires.no_rights

pub keep_files-requires-clause-store : goal.keep_files-requires-clause-store
keep_files-requires-clause-store g c κs within =
    let Is : KeptFiles → Type 0 = λ files. g.F.Files.store c.args.files.now ≡ files.store in
    subst (λ store. AreOfStore store c.self.inside.tokens.entries)
    (sym (subst Is (sym c.self.view_is) c.requires.store)) c.self.invariant.of_store
