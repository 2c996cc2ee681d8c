-- What an association and a prohibition that a command is given are, as 01 has them.
-- Assumes nothing.
use Rattle.model.specs.Policy.{Association as Associated, Prohibition as Prohibited}
use Rattle.store.specs.declared.Association.{Association}
use Rattle.store.specs.declared.Prohibition.{Prohibition}
use Rattle.store.specs.ProhibitionWords.{prohibition}

-- the association that the struct is
abbrev pub association_of : Association → Associated
association_of a = record { attribute = a.attribute; target = a.target; rights = a.rights }

-- the prohibition that the struct is, with what its lists contain
abbrev pub prohibition_of : Prohibition → Prohibited
prohibition_of b = prohibition b.sort b.subject b.form b.rights b.inclusion.now b.exclusion.now
