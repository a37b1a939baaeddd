use Rattle.std.proofs.Common.{ap, sym, ◌∙◌}
use Rattle.mem_outside.specs.Files.{files_store}
use Rattle.core_tests.proofs.stored.open_stored.Goals as goal

pub invariant_of-result-clause-ready : goal.invariant_of-result-clause-ready
invariant_of-result-clause-ready c = record {
  keeps = c.new_core-core.ensures.keeps;
  unread = c.new_core-core.ensures.unread;
  of_store = c.in_ok-port.ensures.store ∙ sym (ap files_store c.port.ensures.all) ∙ c.new_core-core.ensures.of_store;
}
