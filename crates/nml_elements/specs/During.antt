-- What is there of a domain throughout a window.
use Rattle.std.specs.Prelude.{Bool, filter}
use Rattle.nml_elements.specs.declared.elements.Entry.{Entry}
use Rattle.nml_elements.specs.declared.elements.Domain.{Domain}
use Rattle.nml_elements.specs.Lifetimes.{Interval, exists_throughout}

-- whether the element of the entry exists throughout the window
abbrev pub stays : Interval → Entry → Bool
stays window entry = exists_throughout window entry.lifetime

-- The domain without the entries whose elements do not exist throughout the window. The others keep their numbers and their order.
abbrev pub during : Interval → Domain → Domain
during window domain = record { id = domain.id; encoding = domain.encoding; elements = filter (stays window) domain.elements }
