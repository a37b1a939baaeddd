use Rattle.tsdb_state.proofs.order_laws.order_of_stamps_and_points.Goals as goal

pub returns-clause-borns_and_versions : goal.returns-clause-borns_and_versions
returns-clause-borns_and_versions c told state order = order.stamps

pub returns-clause-typed_points : goal.returns-clause-typed_points
returns-clause-typed_points c told state order = order.series

pub returns-clause-pair_limit : goal.returns-clause-pair_limit
returns-clause-pair_limit c told state order = order.limit

pub returns-clause-live_series : goal.returns-clause-live_series
returns-clause-live_series c told state order = order.live
