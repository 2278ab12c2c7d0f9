-- A lifetime that is written is read again.
use Rattle.std.proofs.Common.{◌≡◌, ℕ, List, codes, Option, Some, None, Ok, refl, ap, ◌∙◌}
use Rattle.nml_elements.specs.Kept.{MayBeLifespan}
use Rattle.nml_elements.specs.Lifetimes.{Lifespan, IsLifespan}
use Rattle.nml_elements.specs.MemberReading.{present}
use Rattle.nml_elements.specs.LifetimeReading.{time_at, start_at, end_from, end_at, times_at, lifespan_at, lifetime_from, lifetime_at}
use Rattle.nml_elements.specs.ElementWriting.{Part, object_of, number_part, optional_number_part, lifespan_parts, lifetime_part}
use Rattle.nml_elements.proofs.MemberWriting.{present_object}
use Rattle.nml_elements.proofs.Parts.{is_object, looked_up, part_is}

start_written : (life : Lifespan) → start_at (object_of (lifespan_parts life)) ≡ Ok life.start
unfolding start_at time_at
start_written life = rw (part_is (codes "start") (lifespan_parts life) (number_part life.start) refl) refl

end_by : (end : Option ℕ) → end_from (present (optional_number_part end)) ≡ Ok end
unfolding time_at
end_by None = refl
end_by (Some time) = refl

end_written : (life : Lifespan) → end_at (object_of (lifespan_parts life)) ≡ Ok life.end
unfolding end_at
end_written life = ap end_from (part_is (codes "end") (lifespan_parts life) (optional_number_part life.end) refl) ∙ end_by life.end

lifespan_written : (life : Lifespan) → IsLifespan life → lifespan_at (object_of (lifespan_parts life)) ≡ Ok life
unfolding lifespan_at times_at
lifespan_written life is = rw (is_object (lifespan_parts life), start_written life, end_written life, is) refl

lifetime_by : (life : Option Lifespan) → MayBeLifespan life → lifetime_from (present (lifetime_part life)) ≡ Ok life
lifetime_by None is = refl
lifetime_by (Some life) is = rw (present_object (lifespan_parts life), lifespan_written life is) refl

pub lifetime_written : (ps : List Part) (life : Option Lifespan) → looked_up (codes "existsDuring") ps ≡ lifetime_part life → MayBeLifespan life → lifetime_at (object_of ps) ≡ Ok life
unfolding lifetime_at
lifetime_written ps life here is = ap lifetime_from (part_is (codes "existsDuring") ps (lifetime_part life) here) ∙ lifetime_by life is
