use Rattle.std.proofs.Common.{ap, sym, ◌∙◌}
use Rattle.mem_outside.specs.Files.{files_store}
use Rattle.jobs_tests.proofs.served.open.Goals as goal

pub invariant_of-result-clause-free : goal.invariant_of-result-clause-free
invariant_of-result-clause-free c = record {
  jobs = c.new_core-core.ensures.jobs;
  unread = c.new_core-core.ensures.unread;
  sequence = c.new_core-core.ensures.sequence;
  late = c.new_core-core.ensures.late;
  of_store = c.in_ok-port.ensures.store ∙ sym (ap files_store c.port.ensures.all) ∙ c.new_core-core.ensures.of_store;
}
