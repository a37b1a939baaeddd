use Rattle.std.proofs.Common.{None, Option, subst, sym}
use Rattle.std.specs.Prelude.{IfSome}
use Rattle.tsdb_base.specs.declared.ids.FileNumber.{FileNumber}
use Rattle.tsdb_core.proofs.Parts.{no_part, part_given_up}
use Rattle.tsdb_core.specs.Ending.{PartEnds}
use Rattle.tsdb_fileset.specs.Files.{IsOpen}
use Rattle.tsdb_fileset.specs.Room.{HasRoom}
use Rattle.tsdb_core.proofs.ending.give_up.Goals as goal

pub returns-in-Some : goal.returns-in-Some
returns-in-Some g c commit = subst
    (λ (number : Option FileNumber). PartEnds commit c.args.space number None c.args.files.now c.give_up.new.self)
    (sym c.in-Some.is)
    (part_given_up c.args.files.now c.give_up.new.self commit c.args.space c.in-Some.number c.give_up.ensures.lists
    c.give_up.ensures.place c.give_up.ensures.others c.give_up.ensures.room)

pub returns-in_default : goal.returns-in_default
returns-in_default g c commit = subst
    (λ (number : Option FileNumber). PartEnds commit c.args.space number None c.args.files.now c.args.files.now)
    (sym c.in_default.is) (no_part c.args.files.now commit c.args.space)

pub give_up-requires-clause-room : goal.give_up-requires-clause-room
give_up-requires-clause-room g c = λ lifetimes lives.
    subst (λ (number : Option FileNumber). IfSome number (λ n. HasRoom c.args.space c.args.files.now.spare))
    c.in-Some.is
    c.requires.room

pub give_up-requires-clause-place : goal.give_up-requires-clause-place
give_up-requires-clause-place g c = λ lifetimes lives.
    subst (λ (number : Option FileNumber). IfSome number (λ n. IsOpen n.0 c.args.files.now)) c.in-Some.is
    c.requires.place
