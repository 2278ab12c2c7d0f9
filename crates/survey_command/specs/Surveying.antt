-- The counts of a topology.
use Rattle.std.specs.Prelude.{ℕ, List, [], ◌∷◌, ◌++◌, length, map, filter, codes}
use Rattle.std.specs.List.{concat}
use Rattle.circuit_spec.specs.Network.{Topology, Placed, elements_of, ports}
use Rattle.circuit_spec.specs.Faults.{is_link, is_service}
use Rattle.nml_inventory.specs.Relations.{IsClassCount, open_references}
use Rattle.replies.specs.declared.reply.Reply.{Reply}
use Rattle.replies.specs.declared.reply.Status.TheVariants as statuses
use Rattle.survey_command.specs.Lines.{survey_line, domain_line, count_line}
use Rattle.replies.specs.Through.{IsText}

-- how many elements are links or link groups, and how many are services of any of the four kinds
abbrev pub links_in : List Placed → ℕ
links_in es = length (filter (λ (p : Placed). is_link p.element) es)

abbrev pub services_in : List Placed → ℕ
services_in es = length (filter (λ (p : Placed). is_service p.element) es)

-- a line for each file
abbrev pub heading : Topology → List (List ℕ)
heading T = survey_line ∷ map domain_line T

-- a line for each count
abbrev pub counts : Topology → ℕ → List (List ℕ)
counts T classes =
    count_line (codes "ports ") (length (ports T))
    ∷ count_line (codes "classes ") classes
    ∷ count_line (codes "links ") (links_in (elements_of T))
    ∷ count_line (codes "services ") (services_in (elements_of T))
    ∷ count_line (codes "open-references ") (open_references T)
    ∷ []

-- the counts of the topology are told
pub record IsSurvey (T : Topology) (reply : Reply) : Type 0 where
  pub classes : ℕ
  pub are : IsClassCount T classes
  pub is : IsText statuses.Done (concat (heading T ++ counts T classes)) reply
