-- Two hops are one where all their parts are.
use Rattle.std.proofs.Common.{rules, ◌≡◌, ◌↔◌, ℕ, Bool, true, ◌&&◌, Option, None, Some, refl, sym, ◌∙◌, ap, arith}
use Rattle.std.specs.Prelude.{nat_eq}
use Rattle.std.specs.Str.{bytes_eq}
use Rattle.std.specs.Option.{option_eq}
use Rattle.std.proofs.lemmas.Bool.{and_parts, and_from}
use Rattle.std.proofs.lemmas.Bool.Decides.{nat_tests}
use Rattle.std.proofs.lemmas.Slice.Eq.{bytes_eq-Decides}
use Rattle.ml_base.proofs.Comparisons.{bytes_itself}
use denote.Enum.Bare.{sameb, same_true, true_same}
use Rattle.circuit_spec.specs.contracts.hops.HopKind.{the_type}
use Rattle.circuit_spec.specs.declared.hops.Hop.{Hop}
use Rattle.circuit_spec.specs.declared.hops.HopKind.{HopKind}
use Rattle.circuit_spec.specs.Network.{Name, Tag}
use Rattle.device_rules.specs.declared.rules.Rule.{Rule}

same_tag : (a b : Tag) → option_eq nat_eq a b ≡ true → a ≡ b
same_tag None None h = refl
same_tag None (Some n) h = cc
same_tag (Some m) None h = cc
same_tag (Some m) (Some n) h = ap Some (grind (arith, nat_tests))

tag_itself : (a : Tag) → option_eq nat_eq a a ≡ true
tag_itself None = refl
tag_itself (Some n) = grind (arith, nat_tests)

hop_of : HopKind → Name → Name → Tag → Name → Tag → Name → Hop
hop_of k e f l t m d = record { kind = k; element = e; from = f; from_label = l; to = t; to_label = m; domain = d }

-- all parts are the same
unfoldable pub same_parts : Hop → Hop → Bool
same_parts a b =
    sameb the_type a.kind b.kind
    && (bytes_eq a.element b.element && (bytes_eq a.from b.from && (option_eq nat_eq a.from_label b.from_label && (bytes_eq a.to b.to && (option_eq nat_eq a.to_label b.to_label && bytes_eq a.domain b.domain)))))

-- a part and the others
first : (s t : Bool) → (s && t) ≡ true → s ≡ true
first s t h = (and_parts s t h).0

rest : (s t : Bool) → (s && t) ≡ true → t ≡ true
rest s t h = (and_parts s t h).1

pub same_hop : (a b : Hop) → same_parts a b ≡ true → a ≡ b
unfolding same_parts hop_of
same_hop a b h =
    let h1 = rest (sameb the_type a.kind b.kind) _ h in
    let h2 = rest (bytes_eq a.element b.element) _ h1 in
    let h3 = rest (bytes_eq a.from b.from) _ h2 in
    let h4 = rest (option_eq nat_eq a.from_label b.from_label) _ h3 in
    let h5 = rest (bytes_eq a.to b.to) _ h4 in
    let k : a.kind ≡ b.kind = same_true the_type (search rules) a.kind b.kind (first (sameb the_type a.kind b.kind) _ h) in
    let e : a.element ≡ b.element = (bytes_eq-Decides a.element b.element).0 (first (bytes_eq a.element b.element) _ h1) in
    let f : a.from ≡ b.from = (bytes_eq-Decides a.from b.from).0 (first (bytes_eq a.from b.from) _ h2) in
    let l : a.from_label ≡ b.from_label = same_tag a.from_label b.from_label (first (option_eq nat_eq a.from_label b.from_label) _ h3) in
    let t : a.to ≡ b.to = (bytes_eq-Decides a.to b.to).0 (first (bytes_eq a.to b.to) _ h4) in
    let m : a.to_label ≡ b.to_label = same_tag a.to_label b.to_label (first (option_eq nat_eq a.to_label b.to_label) _ h5) in
    let d : a.domain ≡ b.domain = (bytes_eq-Decides a.domain b.domain).0 (rest (option_eq nat_eq a.to_label b.to_label) _ h5) in
    ap (λ x. hop_of x a.element a.from a.from_label a.to a.to_label a.domain) k
    ∙ ap (λ x. hop_of b.kind x a.from a.from_label a.to a.to_label a.domain) e
    ∙ ap (λ x. hop_of b.kind b.element x a.from_label a.to a.to_label a.domain) f
    ∙ ap (λ x. hop_of b.kind b.element b.from x a.to a.to_label a.domain) l
    ∙ ap (λ x. hop_of b.kind b.element b.from b.from_label x a.to_label a.domain) t
    ∙ ap (λ x. hop_of b.kind b.element b.from b.from_label b.to x a.domain) m
    ∙ ap (λ x. hop_of b.kind b.element b.from b.from_label b.to b.to_label x) d

parts_themselves : (a : Hop) → same_parts a a ≡ true
unfolding same_parts
parts_themselves a =
    and_from (sameb the_type a.kind a.kind) _ (true_same the_type a.kind a.kind refl)
    (and_from (bytes_eq a.element a.element) _ (bytes_itself a.element)
    (and_from (bytes_eq a.from a.from) _ (bytes_itself a.from)
    (and_from (option_eq nat_eq a.from_label a.from_label) _ (tag_itself a.from_label)
    (and_from (bytes_eq a.to a.to) _ (bytes_itself a.to)
    (and_from (option_eq nat_eq a.to_label a.to_label) _ (tag_itself a.to_label) (bytes_itself a.domain))))))

rule_of : ℕ → Hop → Rule
rule_of n h = record { number = n; hop = h }

-- rules of one number are one where their hops have the same parts
pub same_rule : (d r : Rule) (o : Option Rule) (b : Bool) → o ≡ Some d → d.number ≡ r.number → b ≡ same_parts d.hop r.hop → (b ≡ true) ↔ (o ≡ Some r)
unfolding rule_of
same_rule d r o b at number parts = (
  λ t. at ∙ ap Some (ap (λ (n : ℕ). rule_of n d.hop) number ∙ ap (rule_of r.number) (same_hop d.hop r.hop (sym parts ∙ t))),
  λ e. parts ∙ itself d r (sym at ∙ e),
)
  where
    itself : (d r : Rule) → Some d ≡ Some r → same_parts d.hop r.hop ≡ true
    itself d r e = let same : d ≡ r = cc in ap (λ (x : Rule). same_parts d.hop x.hop) (sym same) ∙ parts_themselves d.hop
