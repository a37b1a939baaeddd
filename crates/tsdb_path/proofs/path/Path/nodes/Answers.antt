use Rattle.std.proofs.Common.{length, ap, subst, ◌∙◌, arith}
use Rattle.tsdb_path.specs.Nodes.{IsPath, node_count}
use Rattle.tsdb_path.proofs.Parts.{parts_of_path, parts_from_path}
use Rattle.tsdb_path.proofs.path.Path.nodes.Goals as goal

pub returns-clause-of_each_list : goal.returns-clause-of_each_list
returns-clause-of_each_list c =
    λ nodes path. c.count_nodes.ensures ∙ ap node_count (c.as_slice.ensures.value ∙ c.self.view_is) ∙ ap length (parts_of_path nodes c.args.self.now path)

pub returns-clause-few : goal.returns-clause-few
returns-clause-few c =
    omega (arith, (parts_from_path c.args.self.now (subst IsPath c.self.view_is c.self.invariant)).few, c.count_nodes.ensures ∙ ap node_count (c.as_slice.ensures.value ∙ c.self.view_is))
