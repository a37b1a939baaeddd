use Rattle.std.proofs.Common.{refl, sym, subst}
use Rattle.tsdb_fileset.specs.Files.{KeptFiles}
use Rattle.tsdb_fileset.specs.Replacing.{IsWithin}
use Rattle.tsdb_fileset.proofs.Replaced.{claimed_sound}
use Rattle.tsdb_fileset.proofs.files.KeptFiles.claim.Goals as goal

pub invariant_of-self : goal.invariant_of-self
invariant_of-self g c =
    let Within : KeptFiles → Type 0 = λ files. IsWithin c.args.run files.unsequence in
    claimed_sound g.F.Files.store c.args.run c.args.claimed c.self.inside _ c.self.invariant
    (subst Within (sym c.self.view_is) c.requires) c.claim_in.ensures refl refl refl refl refl refl
