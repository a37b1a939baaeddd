use Rattle.std.proofs.Common.{refl, sym, ◌∙◌}
use Rattle.outside_tests.proofs.copying.copy_file.Goals as goal

pub end_port-requires : goal.end_port-requires
end_port-requires g c = c.put-sealed.ensures.same_store ∙ c.in_ok-port.ensures.store ∙ sym c.port.ensures.same_store

pub keep-requires-clause-rights : goal.keep-requires-clause-rights
keep-requires-clause-rights g c = c.in_ok-sealed.ensures.no_rights

pub keep-requires-clause-store : goal.keep-requires-clause-store
keep-requires-clause-store g c = c.in_ok-sealed.ensures.store ∙ c.in_ok-port.ensures.store
    ∙ sym (c.end_port.ensures.same_store ∙ c.port.ensures.same_store)

pub returns-in_err-read-clause-from : goal.returns-in_err-read-clause-from
returns-in_err-read-clause-from g c = c.fetch_and_read.ensures

pub returns-in_err-read-clause-to : goal.returns-in_err-read-clause-to
returns-in_err-read-clause-to g c = refl

pub returns-in_default-clause-from : goal.returns-in_default-clause-from
returns-in_default-clause-from g c = c.fetch_and_read.ensures

pub returns-in_default-clause-to : goal.returns-in_default-clause-to
returns-in_default-clause-to g c = refl

pub returns-in_err-port-clause-from : goal.returns-in_err-port-clause-from
returns-in_err-port-clause-from g c = c.fetch_and_read.ensures

pub returns-in_err-port-clause-to : goal.returns-in_err-port-clause-to
returns-in_err-port-clause-to g c = c.port.ensures.same_store

pub returns-in_err-sealed-clause-from : goal.returns-in_err-sealed-clause-from
returns-in_err-sealed-clause-from g c = c.fetch_and_read.ensures

pub returns-in_err-sealed-clause-to : goal.returns-in_err-sealed-clause-to
returns-in_err-sealed-clause-to g c = c.end_port.ensures.same_store ∙ c.port.ensures.same_store

pub returns-clause-from : goal.returns-clause-from
returns-clause-from g c = c.fetch_and_read.ensures

pub returns-clause-to : goal.returns-clause-to
returns-clause-to g c = c.keep.ensures.same_store ∙ c.end_port.ensures.same_store ∙ c.port.ensures.same_store
