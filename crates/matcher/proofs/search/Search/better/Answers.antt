use Rattle.std.proofs.Common.{◌≡◌, ℕ, ◌++◌, List, length, get_or, take, ◌∙◌, subst, sym, rules}
use borrow.Rule.Slice.PartMut.{post_of}
use Rattle.rules.specs.declared.row.Row.{Row}
use Rattle.policies.specs.Orders.{Ranks}
use Rattle.matcher.specs.Frames.{frame_rows}
use Rattle.matcher.specs.States.{Kept}
use Rattle.matcher.specs.Leaders.{leader_code}
use Rattle.matcher.proofs.Framed.{framed}
use Rattle.matcher.proofs.Nodes.{few_entries}
use Rattle.matcher.proofs.Ranked.{shown_front, kept_new, kept_old, ranks_at, less, not_less}
use Rattle.matcher.proofs.search.Search.better.Goals as goal

pub slice_bounds-lay_out-end : goal.slice_bounds-lay_out-end
slice_bounds-lay_out-end g c = let f = framed c.args.self.now.frame in few_entries (frame_rows c.args.self.now.frame) c.args.self.now.frame.sizes c.args.spot.node f.tree f.sizes c.requires.on.node f.few

pub returns-then-is_lt-clause-ranked : goal.returns-then-is_lt-clause-ranked
returns-then-is_lt-clause-ranked g c = λ t s w e b z rx ry.
    let l : length (take (get_or c.args.self.now.frame.sizes c.args.spot.node 0) c.args.pad.now.best) ≡ (get_or c.args.self.now.frame.sizes c.args.spot.node 0) = search rules in
    let l' : length (take (get_or c.args.self.now.frame.sizes c.args.spot.node 0) c.args.pad.now.next) ≡ (get_or c.args.self.now.frame.sizes c.args.spot.node 0) = search rules in
    let x = shown_front (frame_rows c.args.self.now.frame) c.args.self.now.frame.symbols c.args.bench.now c.args.spot.node c.args.spot.start c.args.spot.end (leader_code c.args.leader) (get_or c.args.self.now.frame.sizes c.args.spot.node 0) c.lay_out.new.out (post_of 0 (get_or c.args.self.now.frame.sizes c.args.spot.node 0) c.args.pad.now.best) (c.lay_out.auto.out ∙ l) c.lay_out.ensures in
    let y = shown_front (frame_rows c.args.self.now.frame) c.args.self.now.frame.symbols c.args.bench.now c.args.spot.node c.args.spot.start c.args.spot.end c.args.next (get_or c.args.self.now.frame.sizes c.args.spot.node 0) c.unpack.new.out (post_of 0 (get_or c.args.self.now.frame.sizes c.args.spot.node 0) c.args.pad.now.next) (c.unpack.auto.out ∙ l') c.unpack.ensures in
    let Q : List Row → Type 0 = λ rs. Ranks (g.P.Policy.above c.args.self.now.policy.now) rs c.args.spot.node (take (get_or c.args.self.now.frame.sizes c.args.spot.node 0) (c.lay_out.new.out ++ post_of 0 (get_or c.args.self.now.frame.sizes c.args.spot.node 0) c.args.pad.now.best)) (take (get_or c.args.self.now.frame.sizes c.args.spot.node 0) (c.unpack.new.out ++ post_of 0 (get_or c.args.self.now.frame.sizes c.args.spot.node 0) c.args.pad.now.next)) c.rank-rank.result in
    kept_new (g.P.Policy.above c.args.self.now.policy.now) t s w c.args.self.now.frame.symbols c.args.bench.now (frame_rows c.args.self.now.frame) c.args.spot.node c.args.spot.start c.args.spot.end (leader_code c.args.leader) c.args.next (get_or c.args.self.now.frame.sizes c.args.spot.node 0)
    (c.lay_out.new.out ++ post_of 0 (get_or c.args.self.now.frame.sizes c.args.spot.node 0) c.args.pad.now.best) (c.unpack.new.out ++ post_of 0 (get_or c.args.self.now.frame.sizes c.args.spot.node 0) c.args.pad.now.next) c.rank-rank.result e (framed c.args.self.now.frame).few b x y rx ry
    (ranks_at (g.P.Policy.above c.args.self.now.policy.now) (frame_rows c.args.self.now.frame) c.args.spot.node (get_or c.args.self.now.frame.sizes c.args.spot.node 0) (c.lay_out.new.out ++ post_of 0 (get_or c.args.self.now.frame.sizes c.args.spot.node 0) c.args.pad.now.best) (c.unpack.new.out ++ post_of 0 (get_or c.args.self.now.frame.sizes c.args.spot.node 0) c.args.pad.now.next) c.rank-rank.result (subst Q c.rows-rows.ensures c.rank-rank.ensures)) (less c.rank-rank.result (sym c.if-is_lt.ensures))

pub returns-clause-ranked : goal.returns-clause-ranked
returns-clause-ranked g c = λ t s w e b z rx ry.
    let l : length (take (get_or c.args.self.now.frame.sizes c.args.spot.node 0) c.args.pad.now.best) ≡ (get_or c.args.self.now.frame.sizes c.args.spot.node 0) = search rules in
    let l' : length (take (get_or c.args.self.now.frame.sizes c.args.spot.node 0) c.args.pad.now.next) ≡ (get_or c.args.self.now.frame.sizes c.args.spot.node 0) = search rules in
    let x = shown_front (frame_rows c.args.self.now.frame) c.args.self.now.frame.symbols c.args.bench.now c.args.spot.node c.args.spot.start c.args.spot.end (leader_code c.args.leader) (get_or c.args.self.now.frame.sizes c.args.spot.node 0) c.lay_out.new.out (post_of 0 (get_or c.args.self.now.frame.sizes c.args.spot.node 0) c.args.pad.now.best) (c.lay_out.auto.out ∙ l) c.lay_out.ensures in
    let y = shown_front (frame_rows c.args.self.now.frame) c.args.self.now.frame.symbols c.args.bench.now c.args.spot.node c.args.spot.start c.args.spot.end c.args.next (get_or c.args.self.now.frame.sizes c.args.spot.node 0) c.unpack.new.out (post_of 0 (get_or c.args.self.now.frame.sizes c.args.spot.node 0) c.args.pad.now.next) (c.unpack.auto.out ∙ l') c.unpack.ensures in
    let Q : List Row → Type 0 = λ rs. Ranks (g.P.Policy.above c.args.self.now.policy.now) rs c.args.spot.node (take (get_or c.args.self.now.frame.sizes c.args.spot.node 0) (c.lay_out.new.out ++ post_of 0 (get_or c.args.self.now.frame.sizes c.args.spot.node 0) c.args.pad.now.best)) (take (get_or c.args.self.now.frame.sizes c.args.spot.node 0) (c.unpack.new.out ++ post_of 0 (get_or c.args.self.now.frame.sizes c.args.spot.node 0) c.args.pad.now.next)) c.rank-rank.result in
    let P : ℕ → Type 0 = λ v. Kept (g.P.Policy.above c.args.self.now.policy.now) t w c.args.self.now.frame.symbols c.args.bench.now s c.args.spot.node c.args.spot.start c.args.spot.end (leader_code c.args.leader) c.args.next v in
    subst P (sym c.code.ensures)
    (kept_old (g.P.Policy.above c.args.self.now.policy.now) t s w c.args.self.now.frame.symbols c.args.bench.now (frame_rows c.args.self.now.frame) c.args.spot.node c.args.spot.start c.args.spot.end (leader_code c.args.leader) c.args.next (get_or c.args.self.now.frame.sizes c.args.spot.node 0)
    (c.lay_out.new.out ++ post_of 0 (get_or c.args.self.now.frame.sizes c.args.spot.node 0) c.args.pad.now.best) (c.unpack.new.out ++ post_of 0 (get_or c.args.self.now.frame.sizes c.args.spot.node 0) c.args.pad.now.next) c.rank-rank.result e (framed c.args.self.now.frame).few b x y rx ry
    (ranks_at (g.P.Policy.above c.args.self.now.policy.now) (frame_rows c.args.self.now.frame) c.args.spot.node (get_or c.args.self.now.frame.sizes c.args.spot.node 0) (c.lay_out.new.out ++ post_of 0 (get_or c.args.self.now.frame.sizes c.args.spot.node 0) c.args.pad.now.best) (c.unpack.new.out ++ post_of 0 (get_or c.args.self.now.frame.sizes c.args.spot.node 0) c.args.pad.now.next) c.rank-rank.result (subst Q c.rows-rows.ensures c.rank-rank.ensures)) (not_less c.rank-rank.result (sym c.if-is_lt.ensures)))
