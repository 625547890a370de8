-- `expect::four_products` meets its contract. Assumes nothing.
use native.Mathlib.Omega.{arith}
use Rattle.expect.specs.Expected.{term}
use Rattle.expect.proofs.Laws.{sum_four}
use Rattle.expect.proofs.four_products.Goals as goal

pub returns : goal.returns
returns c =
    let args = c.args in
    let product = c.product-first in
    let product2 = c.product-second in
    let product3 = c.product-third in
    let product4 = c.product-fourth in
    let f = term args.work.now args.groups.now args.a in
    let four = sum_four f args.k in (
      omega (arith, product.ensures.0, product2.ensures.0, product3.ensures.0, product4.ensures.0),
      omega (arith, product.ensures.1, product2.ensures.1, product3.ensures.1, product4.ensures.1),
    )
