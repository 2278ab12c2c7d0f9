-- Entries that are numbered one by one.
use Rattle.std.proofs.Common.{◌≡◌, ℕ, suc, ◌+◌, List, [], ◌∷◌, ◌++◌, None, length, refl, ap, arith}
use Rattle.nml_elements.specs.declared.elements.Element.{Element}
use Rattle.topo_gen.specs.Tunnels.{entries_from}

pub length-entries_from : (n : ℕ) (es : List Element) → length (entries_from n es) ≡ length es
length-entries_from n [] = refl
length-entries_from n (e ∷ es) = ap suc (length-entries_from (n + 1) es)

-- one more element has the next number
pub entries_from-more : (n m : ℕ) (es : List Element) (e : Element) → m ≡ n + length es → entries_from n (es ++ e ∷ []) ≡ entries_from n es ++ record { number = m; element = e; lifetime = None } ∷ []
entries_from-more n m [] e is = let h : n ≡ m = omega (arith, is) in cc
entries_from-more n m (x ∷ es) e is = ap (λ rest. record { number = n; element = x; lifetime = None } ∷ rest) (entries_from-more (n + 1) m es e (omega (arith, is)))
