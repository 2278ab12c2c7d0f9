use Rattle.std.proofs.Common.{Err, refl, ap}
use Rattle.nml_elements.specs.MemberReading.{id_at}
use Rattle.nml_elements.proofs.IdTest.{text_id, no_id}
use Rattle.nml_elements.proofs.member_reading.id_of.Goals as goal

pub returns-in-Ok : goal.returns-in-Ok
unfolding id_at
returns-in-Ok c = rw (← c.in-Some.ensures, text_id _ c.in-Ok.ensures.ok.1, c.in-Ok.ensures.ok.0) refl

pub returns-in-Err-Text : goal.returns-in-Err-Text
unfolding id_at
returns-in-Err-Text c = rw (← c.in-Some.ensures, no_id _ (c.in-Err-Text.ensures.refused.0 (ap Err c.in-Err-Text.field-0-is))) refl
