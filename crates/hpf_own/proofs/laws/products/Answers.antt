use Rattle.hpf_own.proofs.Products.{product-some, product-take, product_more, product-one}
use Rattle.hpf_own.proofs.laws.products.Goals as goal

pub returns-clause-some : goal.returns-clause-some
returns-clause-some c = product-some

pub returns-clause-more : goal.returns-clause-more
returns-clause-more c = product_more

pub returns-clause-front : goal.returns-clause-front
returns-clause-front c = product-take

pub returns-clause-one : goal.returns-clause-one
returns-clause-one c = product-one
