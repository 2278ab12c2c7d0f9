-- How many ports are the first of their class.
use Rattle.std.proofs.Common.{◌≡◌, ◌≢◌, ℕ, suc, ◌+◌, inl, inr, List, [], ◌∷◌, ◌++◌, Some, take, sym, ◌∙◌, ap, subst, arith}
use Rattle.std.specs.Prelude.{slice_get}
use Rattle.std.proofs.lemmas.List.{take_more}
use Rattle.std.proofs.lemmas.Option.{slice_get_within, get_or_from_slice_get}
use Rattle.ml_base.proofs.Lists.{one_of_some}
use Rattle.circuit_spec.specs.Faults.{duplicate_ids}
use Rattle.circuit_spec.specs.Network.{IsClass, Linked, Port, Topology, ports}
use Rattle.circuit_spec.proofs.ClassLemmas.{First-unique}
use Rattle.nml_inventory.specs.Aliases.{IsClassNumber}
use Rattle.nml_inventory.specs.Relations.{IsCount}
use Rattle.nml_inventory.proofs.ClassNumbers.{port_id}
use Rattle.nml_inventory.proofs.Distinct.{same_place}
use Rattle.nml_inventory.proofs.PortNumbers.{distinct_ports}

push_one : {A : Type 0} (P : A → Type 0) (xs : List A) (x : A) (n : ℕ) → P x → IsCount P xs n → IsCount P (xs ++ x ∷ []) (n + 1)
push_one P [] x n p c = inl (p, (n, (let e : n + 1 ≡ suc n = omega arith in e), c))
push_one P (y ∷ xs) x n p (inl q) = inl (q.0, (q.1.0 + 1, (let e : n + 1 ≡ suc (q.1.0 + 1) = omega (arith, q.1.1) in e), push_one P xs x q.1.0 p q.1.2))
push_one P (y ∷ xs) x n p (inr q) = inr (q.0, push_one P xs x n p q.1)

push_none : {A : Type 0} (P : A → Type 0) (xs : List A) (x : A) (n : ℕ) → (P x → ⊥) → IsCount P xs n → IsCount P (xs ++ x ∷ []) n
push_none P [] x n p c = inr (p, c)
push_none P (y ∷ xs) x n p (inl q) = inl (q.0, (q.1.0, q.1.1, push_none P xs x q.1.0 p q.1.2))
push_none P (y ∷ xs) x n p (inr q) = inr (q.0, push_none P xs x n p q.1)

next : {A : Type 0} (xs : List A) (i : ℕ) (x : A) → slice_get xs i ≡ Some x → take (i + 1) xs ≡ take i xs ++ x ∷ []
next {A} xs i x at = take_more xs i x (slice_get_within xs i x at) ∙ ap (λ (y : A). take i xs ++ y ∷ []) (get_or_from_slice_get xs i x x at)

pub one_class : (T : Topology) (n k count : ℕ) → duplicate_ids T ≡ [] → IsClassNumber T n k → k ≡ n → IsCount (λ (p : Port). IsClass T p.id p) (take n (ports T)) count → IsCount (λ (p : Port). IsClass T p.id p) (take (n + 1) (ports T)) (count + 1)
one_class T n k count once c same so_far =
    let P : Port → Type 0 = λ p. IsClass T p.id p in
    let is : c.first ≡ c.port = one_of_some (sym c.is_first ∙ ap (slice_get (ports T)) same ∙ c.is_port) in
    subst (λ (ps : List Port). IsCount P ps (count + 1)) (sym (next (ports T) n c.port c.is_port))
    (push_one P (take n (ports T)) c.port count (subst (λ (q : Port). IsClass T c.port.id q) is c.is_class) so_far)

pub other_class : (T : Topology) (n k count : ℕ) → duplicate_ids T ≡ [] → IsClassNumber T n k → k ≢ n → IsCount (λ (p : Port). IsClass T p.id p) (take n (ports T)) count → IsCount (λ (p : Port). IsClass T p.id p) (take (n + 1) (ports T)) count
other_class T n k count once c other so_far =
    let P : Port → Type 0 = λ p. IsClass T p.id p in
    subst (λ (ps : List Port). IsCount P ps count) (sym (next (ports T) n c.port c.is_port))
    (push_none P (take n (ports T)) c.port count
    (λ own.
    let is : c.first ≡ c.port = First-unique (λ (q : Port). Linked T c.port.id q.id) (ports T) c.first c.port c.is_class own in
    other (same_place port_id (ports T) k n c.first c.port (distinct_ports T once) c.is_first c.is_port (ap port_id is)))
    so_far)
