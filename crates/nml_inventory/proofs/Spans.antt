-- Groups copied one after another into the spans of one list.
use Rattle.std.proofs.Common.{◌≡◌, ℕ, ◌+◌, ◌-◌, ◌<◌, ◌≤◌, List, [], ◌∷◌, ◌++◌, map, take, drop, length, get_or, refl, sym, ◌∙◌, ap, arith, length-append}
use Rattle.std.proofs.lemmas.List.{drop-append-le, take-append-le, take_all, take_more, drop-map, take-map, length-drop, length-map}
use Rattle.ml_base.specs.declared.numbers.PortNo.{PortNo}
use Rattle.alias_merge.specs.Groups.{AreSpans, groups_at}

abbrev pub number_of : PortNo → ℕ
number_of p = p.0

behind : (items more : List ℕ) → drop (length items) (items ++ more) ≡ more
behind [] more = refl
behind (x ∷ items) more = behind items more

-- a span at the end
pub span_push : (begins ends items more : List ℕ) (b e : ℕ) → AreSpans begins ends items → b ≡ length items → e ≡ length (items ++ more) → (groups_at (begins ++ b ∷ []) (ends ++ e ∷ []) (items ++ more) ≡ groups_at begins ends items ++ more ∷ []) × AreSpans (begins ++ b ∷ []) (ends ++ e ∷ []) (items ++ more)
span_push [] [] items more b e s begin end =
    let long = length-append items more in
    let n : e - b ≡ length more = omega arith in (
      ap (λ g. g ∷ []) (ap (λ k. take k (drop b (items ++ more))) n ∙ ap (λ k. take (length more) (drop k (items ++ more))) begin ∙ ap (take (length more)) (behind items more) ∙ take_all (length more) more (omega arith)),
      (omega arith, omega arith, tt),
    )
span_push [] (f ∷ ends) items more b e s begin end = absurd s
span_push (c ∷ begins) [] items more b e s begin end = absurd s
span_push (c ∷ begins) (f ∷ ends) items more b e s begin end =
    let later = span_push begins ends items more b e s.2 begin end in
    let within : f - c ≤ length (drop c items) = omega (arith, length-drop c items, s.0, s.1) in
    let here : take (f - c) (drop c (items ++ more)) ≡ take (f - c) (drop c items) =
    ap (take (f - c)) (drop-append-le c items more (omega (arith, s.0, s.1))) ∙ take-append-le (f - c) (drop c items) more within in (
      ap (λ g. g ∷ groups_at (begins ++ b ∷ []) (ends ++ e ∷ []) (items ++ more)) here ∙ ap (λ gs. take (f - c) (drop c items) ∷ gs) later.0,
      (s.0, omega (arith, s.1, length-append items more), later.1),
    )

-- the first of the groups are copied
pub record AreCopied (groups : List (List ℕ)) (number : ℕ) (begins ends : List ℕ) (ports : List PortNo) : Type 0 where
  pub same : groups_at begins ends (map number_of ports) ≡ take number groups
  pub spans : AreSpans begins ends (map number_of ports)

pub copied_more : (groups : List (List ℕ)) (number : ℕ) (begins ends : List ℕ) (old new : List PortNo) (b e : ℕ) → number < length groups → AreCopied groups number begins ends old → b ≡ length old → e ≡ length new → map number_of new ≡ map number_of old ++ get_or groups number [] → AreCopied groups (number + 1) (begins ++ b ∷ []) (ends ++ e ∷ []) new
copied_more groups number begins ends old new b e h a begin end put =
    let group = get_or groups number [] in
    let pushed = span_push begins ends (map number_of old) group b e a.spans (begin ∙ sym (length-map old number_of)) (end ∙ sym (length-map new number_of) ∙ ap length put) in
    record {
      same =
          ap (groups_at (begins ++ b ∷ []) (ends ++ e ∷ [])) put ∙ pushed.0
          ∙ ap (λ gs. gs ++ group ∷ []) a.same ∙ sym (take_more groups number [] h);
      spans = rw put pushed.1;
    }

pub ports_between : (ports : List PortNo) (n b : ℕ) → map number_of (take n (drop b ports)) ≡ take n (drop b (map number_of ports))
ports_between ports n b = sym (take-map number_of n (drop b ports)) ∙ ap (take n) (sym (drop-map number_of b ports))
