use Rattle.std.proofs.Common.{rules, ◌≡◌, ℕ, length, take, refl, ap, ◌∙◌}
use Rattle.model.specs.Bounds.{joined_bound}
use Rattle.loader.specs.Meaning.{the_graph}
use Rattle.loader.proofs.Laws.{the_lawful}
use Rattle.nodes.specs.Meaning.{the_nodes}
use Rattle.solve.specs.Solving.{ended}
use Rattle.planner.specs.Planning.{Written}
use Rattle.planner.proofs.Blanks.{opens, given-back, told}
use Rattle.planner.proofs.Endings.{ended-by}
use Rattle.planner.proofs.Pages.{joined-lower}
use Rattle.planner.proofs.plan.plan_graph.Goals as goal

pub search_page-requires-clause-opens : goal.search_page-requires-clause-opens
search_page-requires-clause-opens c =
    opens c.args.options.nodes _ _ _ c.in_ok-table.ensures c.start-list.ensures.bag (search rules) c.args.options.two c.args.options.few

pub returns : goal.returns
returns c =
    let G = the_graph c.args.g.now in
    let limit : ℕ = length c.start-list.result.heap.slots.now in
    let many : limit ≡ c.args.options.nodes = search rules in
    let accepted = opens c.args.options.nodes limit _ _ c.in_ok-table.ensures refl many c.args.options.two c.args.options.few in
    let W : Written G c.args.options.budget (ended G joined_bound (the_nodes c.in_ok-table.table) limit c.args.options.budget 1) c.search_page.result c.as_mut_slice-2.result.now c.search_page.new.page = c.search_page.ensures in
    let cut : c.truncate.new.self.items ≡ take c.in_ok-length.length c.search_page.new.page =
    c.truncate.ensures.items ∙ ap (take c.in_ok-length.length) (given-back c.in_ok-page.page.len c.search_page.new.page c.in_ok-page.page.items (search rules)) in
    let ends = ended-by G joined_bound (the_lawful c.args.g.now) joined-lower (the_nodes c.in_ok-table.table) limit c.args.options.budget accepted in
    told G c.args.options (the_nodes c.in_ok-table.table) limit c.search_page.result c.in_ok-length.length c.in_ok-length.limit _ _ _ c.in_ok-table.ensures many c.in_ok-length.was W ends cut
