use Rattle.std.proofs.Common.{◌≡◌, ◌≤◌, Some, false, ap, ◌∙◌, arith}
use Rattle.serde_json.specs.Data.{depth}
use Rattle.serde_json.specs.View.{view}
use Rattle.serde_json.specs.Written.{has_float, compact_text}
use Rattle.nml_elements.proofs.FileBack.{bytes_read, domain_read}
use Rattle.nml_elements.proofs.Plain.{domain_plain}
use Rattle.nml_elements.proofs.file_writing.write_domain.Goals as goal

pub returns-in-Ok-clause-written : goal.returns-in-Ok-clause-written
returns-in-Ok-clause-written c =
    let plain = domain_plain c.args.domain.now in
    let no_float : has_float (view c.in_ok-value.value) ≡ false = rw c.in_ok-value.ensures.written plain.1 in
    c.in-Ok.ensures.text no_float ∙ ap compact_text c.in_ok-value.ensures.written

pub returns-in-Ok-clause-reads_back : goal.returns-in-Ok-clause-reads_back
returns-in-Ok-clause-reads_back c = λ counted few.
    let plain = domain_plain c.args.domain.now in
    let shallow : depth (view c.in_ok-value.value) ≤ 127 = rw c.in_ok-value.ensures.written (omega (arith, plain.0)) in
    bytes_read _ c.args.domain.now c.in-Ok.ensures.utf8 (c.in-Ok.ensures.reads_back shallow ∙ ap Some c.in_ok-value.ensures.written)
    (domain_read c.args.domain.now c.in_ok-value.ensures.id c.in_ok-value.ensures.encoding c.in_ok-value.ensures.kept counted few)
