-- What a policy read from an image must be before its records can be laid into the words of a table: the groups have room, no list has more than
-- four ids, and elements and processes, which stand in the words by their ids, have fields in range and ids that rise.
-- Assumes nothing.
use Rattle.std.specs.Prelude.{Bool, ◌&&◌, List, leb, length}
use Rattle.model.specs.Lists.{all_of, rising}
use Rattle.model.specs.Policy.{Element, Prohibition, Process, Policy, element_key, process_key}
use Rattle.model.specs.Sound.{within_limits, element_fits, process_fits}

-- each element's fields are in range, and the ids rise
unfoldable pub elements_right : List Element → Bool
elements_right l = all_of element_fits l && rising element_key l

-- each process's fields are in range, and the ids rise
unfoldable pub processes_right : List Process → Bool
processes_right l = all_of process_fits l && rising process_key l

-- "at most four attributes each"
unfoldable pub lists_short : Prohibition → Bool
lists_short b = leb (length b.inclusion) 4 && leb (length b.exclusion) 4

-- of each prohibition
unfoldable pub all_short : List Prohibition → Bool
all_short l = all_of lists_short l

-- the whole
unfoldable pub stowable : Policy → Bool
stowable p = within_limits p && elements_right p.elements && all_short p.prohibitions && processes_right p.processes
