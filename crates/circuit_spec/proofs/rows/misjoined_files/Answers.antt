use Rattle.std.proofs.Common.{◌≡◌, inr, [], codes, refl, sym}
use Rattle.std.proofs.lemmas.Bool.{false≢true}
use Rattle.std.proofs.lemmas.Slice.Eq.{bytes_eq-Decides}
use Rattle.circuit_spec.specs.Network.{Linked, ports}
use Rattle.circuit_spec.specs.Rows.{misjoined}
use Rattle.circuit_spec.proofs.Alone.{NoAliases, linked_alone}
use Rattle.circuit_spec.proofs.rows.misjoined_files.Goals as goal

none : NoAliases (ports misjoined)
none = (refl, (refl, tt))

differ : codes "a" ≡ codes "b" → ⊥
differ e = false≢true ((bytes_eq-Decides (codes "a") (codes "b")).1 e)

apart : Linked misjoined (codes "a") (codes "b") → ⊥
apart l = differ (linked_alone misjoined (codes "a") (codes "b") none l)

apart_back : Linked misjoined (codes "b") (codes "a") → ⊥
apart_back l = differ (sym (linked_alone misjoined (codes "b") (codes "a") none l))

pub returns-clause-fault : goal.returns-clause-fault
returns-clause-fault c = inr (
  (((λ _. (refl, refl)), ((λ l. absurd (apart l)), tt)), (((λ l. absurd (apart_back l)), ((λ _. (refl, refl)), tt)), tt)),
  ([], refl),
)
