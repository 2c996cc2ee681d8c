use Rattle.grants.proofs.Counted.{product_fits, set_counted, none_counted}
use Rattle.grants.proofs.count_set.Goals as goal

pub returns-then-rights-eq0 : goal.returns-then-rights-eq0
returns-then-rights-eq0 c = search none_counted

pub overflow_mul-result : goal.overflow_mul-result
overflow_mul-result c = search product_fits

pub returns : goal.returns
returns c = search set_counted
