use Rattle.std.proofs.Common.{◌≡◌, refl, sym, ap, subst, ◌∙◌}
use Rattle.tsdb_fileset.specs.Files.{IsOpen, KeptFiles}
use Rattle.tsdb_fileset.specs.Places.{KeptFile}
use Rattle.tsdb_fileset.specs.Room.{HasRoom}
use Rattle.tsdb_fileset.proofs.Changes.{sent}
use Rattle.tsdb_fileset.proofs.files.KeptFiles.send_out.Goals as goal

pub invariant_of-self : goal.invariant_of-self
invariant_of-self g c =
    let place = subst (IsOpen c.args.built.entry.number.0) (sym c.self.view_is) c.requires.place in
    let InKept : KeptFiles → Type 0 = λ files. HasRoom c.args.space files.spare in
    let room = subst InKept (sym c.self.view_is) c.requires.room in
    let Is : KeptFiles → Type 0 = λ files. (g.F.Sealed.SealedFile.file c.args.built.sealed).store ≡ files.store in
    sent g.F.Files.store c.args.space c.args.built.entry c.new.result c.self.inside _ c.self.invariant place room
    c.fill_place.ensures.file c.fill_place.ensures.others refl refl c.push.ensures c.less_room-self-inside.ensures refl
    refl (ap (λ (file : KeptFile). file.name.store) c.new.ensures ∙ subst Is (sym c.self.view_is) c.requires.store)
