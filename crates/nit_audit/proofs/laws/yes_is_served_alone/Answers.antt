use Rattle.nit_audit.proofs.laws.yes_is_served_alone.Goals as goal

pub returns : goal.returns
returns c config clients user entries s yes_ inside = c.isolation.ensures config entries s yes_.0.legal inside
