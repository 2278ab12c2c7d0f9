use Rattle.hop_check.proofs.carrying.takes.Goals as goal

pub returns-in-Err-NoHop-clause-unit : goal.returns-in-Err-NoHop-clause-unit
returns-in-Err-NoHop-clause-unit c next step = let clash = c.in-Err-NoHop.ensures.next next step (λ _. c.requires.room) in absurd cc

pub returns-in-Err-NoHop-2-clause-unit : goal.returns-in-Err-NoHop-2-clause-unit
returns-in-Err-NoHop-2-clause-unit c next step = let clash = c.in-Err-NoHop.ensures.next next step (λ _. c.requires.room) in absurd cc

pub returns-in-Err-NoHop-3-clause-unit : goal.returns-in-Err-NoHop-3-clause-unit
returns-in-Err-NoHop-3-clause-unit c next step = let clash = c.in-Err-NoHop.ensures.next next step (λ _. c.requires.room) in absurd cc
