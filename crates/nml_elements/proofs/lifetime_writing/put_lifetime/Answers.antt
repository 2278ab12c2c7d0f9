use Rattle.nml_elements.proofs.lifetime_writing.put_lifetime.Goals as goal

pub returns-clause-written : goal.returns-clause-written
returns-clause-written c = rw c.in-Some.is (rw c.in_ok-value.ensures.written at c.in_ok-put_value.ensures)
