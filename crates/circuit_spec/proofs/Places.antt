-- The test of two places says whether they are the same.
use Rattle.std.proofs.Common.{◌≡◌, true, ◌&&◌, None, Some, refl, ◌∙◌, ap}
use Rattle.std.specs.Bool.{Decides}
use Rattle.std.specs.Str.{bytes_eq}
use Rattle.std.proofs.lemmas.Bool.{and_parts, eq-eqb, eqb-true}
use Rattle.std.proofs.lemmas.Slice.Eq.{bytes_eq-Decides}
use Rattle.circuit_spec.specs.declared.hops.PlaceName.{PlaceName}
use Rattle.circuit_spec.specs.Flags.{same_place, same_tag}
use Rattle.circuit_spec.specs.Network.{Name, Tag}

pub tag_decides : (x y : Tag) → Decides (same_tag x y) (x ≡ y)
tag_decides None None = (λ e. refl, λ e. refl)
tag_decides None (Some n) = (λ e. absurd (cc), λ e. absurd (cc))
tag_decides (Some m) None = (λ e. absurd (cc), λ e. absurd (cc))
tag_decides (Some m) (Some n) = (λ e. ap Some (eqb-true m n e), λ e. let same : m ≡ n = cc in eq-eqb m n same)

pub same_tags : (x y : Tag) → same_tag x y ≡ true → x ≡ y
same_tags x y = (tag_decides x y).0

pub tag_itself : (x : Tag) → same_tag x x ≡ true
tag_itself x = (tag_decides x x).1 refl

place : Name → Tag → PlaceName
place class label = record { class = class; label = label }

pub same_places : (x y : PlaceName) → same_place x y ≡ true → x ≡ y
unfolding place
same_places x y e =
    let parts = and_parts (bytes_eq x.class y.class) (same_tag x.label y.label) e in
    ap (λ c. place c x.label) ((bytes_eq-Decides x.class y.class).0 parts.0) ∙ ap (place y.class) (same_tags x.label y.label parts.1)

pub place_itself : (x : PlaceName) → same_place x x ≡ true
place_itself x = ap (λ b. b && same_tag x.label x.label) ((bytes_eq-Decides x.class x.class).1 refl) ∙ tag_itself x.label
