use Rattle.mem_outside.specs.Place.{place_files, place_journal}
use Rattle.mem_outside.proofs.PlaceLemmas.{never_after}
use Rattle.mem_outside.proofs.steady.SteadyPlacePlace.take_up.Goals as goal

pub invariant_of-self : goal.invariant_of-self
invariant_of-self c = record {
  never = never_after c.take_up.result (place_journal c.args.self.now.place) (place_journal c.take_up.new.self)
      (place_files c.args.self.now.place) (place_files c.take_up.new.self) c.take_up.ensures.out c.take_up.ensures.same
      c.args.self.now.never;
}
