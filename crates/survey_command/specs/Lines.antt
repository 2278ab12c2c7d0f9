-- The lines of counts, each with its newline.
use Rattle.std.specs.Prelude.{ℕ, List, ◌++◌, length, codes, decimal}
use Rattle.nml_elements.specs.declared.elements.Domain.{Domain}

unfoldable pub survey_line : List ℕ
survey_line = codes "survey\n"

unfoldable pub domain_line : Domain → List ℕ
domain_line domain = codes "domain " ++ domain.id ++ codes " " ++ decimal (length domain.elements) ++ codes "\n"

unfoldable pub count_line : List ℕ → ℕ → List ℕ
count_line word n = word ++ decimal n ++ codes "\n"
