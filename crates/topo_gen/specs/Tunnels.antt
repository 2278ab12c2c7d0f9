-- Nested tunnels of any number of levels: what runs through level k runs twice through level k - 1.
use Rattle.std.specs.Prelude.{ℕ, ◌+◌, ◌-◌, ◌*◌, ◌^◌, List, [], ◌∷◌, ◌++◌, false, None, refl, codes, decimal, map, nat_lt, if◌then◌else◌}
use Rattle.std.specs.List.{range_with_len}
use Rattle.nml_elements.specs.declared.elements.Domain.{Domain}
use Rattle.nml_elements.specs.declared.elements.Entry.{Entry}
use Rattle.nml_elements.specs.declared.elements.Labels.TheVariants.{Unlabelled}
use Rattle.nml_elements.specs.declared.elements.Element.{Element}
use Rattle.nml_elements.specs.declared.elements.Element.TheVariants as element
use Rattle.ml_base.specs.Weight.{FullWeight}
use Rattle.ml_base.specs.declared.numbers.Wish.TheVariants.{Any}
use Rattle.circuit_spec.specs.declared.hops.Request.{Request}
use Rattle.circuit_spec.specs.Network.{Name, Topology}

-- Parts

-- a letter and a number in decimal, as an id
abbrev pub named : Name → ℕ → Name
named letter number = letter ++ decimal number

-- a port without a label, an encoding or an alias: the links that it sends into, those that deliver to it, the services it serves
abbrev pub port : Name → List Name → List Name → List Name → Element
port id sources sinks services =
    element.Port (record { id = id; group = false; encoding = None; labels = Unlabelled; sources = sources; sinks = sinks; services = services; aliases = []; labelled = refl })

-- a link without a label or an encoding, of a cost
abbrev pub link : Name → ℕ → Element
link id cost = element.Link (record { id = id; group = false; encoding = None; labels = Unlabelled; cost = cost; labelled = refl })

-- an adaptation of cost 1, of a function, over a client port
abbrev pub adaptation : Name → Name → Name → Element
adaptation id function client = element.Adaptation (record { id = id; function = function; cost = 1; ports = client ∷ [] })

-- a deadaptation of cost 1, of a function, over a client port
abbrev pub deadaptation : Name → Name → Name → Element
deadaptation id function client = element.Deadaptation (record { id = id; function = function; cost = 1; ports = client ∷ [] })

-- the elements as entries without a lifetime, numbered from a number on
abbrev pub entries_from : ℕ → List Element → List Entry
entries_from n [] = []
entries_from n (e ∷ es) = record { number = n; element = e; lifetime = None } ∷ entries_from (n + 1) es

-- the domain of a level, without an encoding, whose entries are numbered from 1
abbrev pub domain_of : ℕ → List Element → Domain
domain_of level elements = record { id = named (codes "d") level; encoding = None; elements = entries_from 1 elements }

-- Levels

-- the services of these two letters in the level above this one, if there is one
abbrev pub services_above : ℕ → ℕ → Name → Name → List Name
services_above levels level first second = if nat_lt level levels then named first (level + 1) ∷ named second (level + 1) ∷ [] else []

-- the port where what runs through the level begins
abbrev pub first_port : ℕ → ℕ → List Name → Element
first_port levels level sources = port (named (codes "x") level) sources [] (services_above levels level (codes "a") (codes "b"))

-- the port where it ends
abbrev pub last_port : ℕ → ℕ → List Name → Element
last_port levels level sinks = port (named (codes "y") level) [] sinks (services_above levels level (codes "u") (codes "v"))

-- the numbers of the links
abbrev pub link_numbers : List ℕ
link_numbers = range_with_len 1 8

-- the links of level 0
abbrev pub link_ids : List Name
link_ids = map (named (codes "l")) link_numbers

-- Level 0: eight links lead from x0 to y0, and the link li costs i.
unfoldable pub ground : ℕ → Domain
ground levels =
    domain_of 0 (
    first_port levels 0 link_ids
    ∷ last_port levels 0 link_ids
    ∷ map (λ i. link (named (codes "l") i) i) link_numbers)

-- A level from 1 on: xk is wrapped into the level below by ak, and comes out at mk by uk; it is wrapped again by bk, and comes out at yk
-- by vk.
unfoldable pub tunnel : ℕ → ℕ → Domain
tunnel levels k =
    domain_of k (
    first_port levels k []
    ∷ port (named (codes "m") k) [] [] []
    ∷ last_port levels k []
    ∷ adaptation (named (codes "a") k) (named (codes "F") k) (named (codes "x") k)
    ∷ adaptation (named (codes "b") k) (named (codes "G") k) (named (codes "m") k)
    ∷ deadaptation (named (codes "u") k) (named (codes "F") k) (named (codes "m") k)
    ∷ deadaptation (named (codes "v") k) (named (codes "G") k) (named (codes "y") k)
    ∷ [])

-- The network

-- the domains of level 0 to this one
abbrev pub generated_domains : ℕ → Topology
generated_domains levels = ground levels ∷ map (tunnel levels) (range_with_len 1 levels)

-- through the highest level, with any label at both ends
abbrev pub generated_request : ℕ → Request
generated_request levels = record { from = named (codes "x") levels; from_wish = Any; to = named (codes "y") levels; to_wish = Any }

-- the weight of a walk that runs twice through each level below the highest, and through the link l1 at level 0
abbrev pub generated_weight : ℕ → FullWeight
generated_weight levels = record { cost = 5 * 2 ^ levels - 4; hops = 5 * 2 ^ levels - 4 }
