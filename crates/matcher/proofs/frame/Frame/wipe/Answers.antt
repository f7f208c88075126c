use Rattle.std.proofs.Common.{◌≡◌, ℕ, ◌+◌, ◌*◌, ◌<◌, ◌≤◌, List, ◌++◌, length, get_or, replicate, take, ap, ◌∙◌, arith, length-take}
use Rattle.std.proofs.Math.ListN.{get_or-append}
use Rattle.std.proofs.lemmas.List.{get_or-replicate}
use Rattle.matcher.specs.Frames.{frame_rows, spot_place}
use Rattle.matcher.proofs.Places.{place_below}
use Rattle.matcher.proofs.frame.Frame.wipe.Goals as goal

front_is : (k v a : ℕ) (front rest : List ℕ) → front ≡ replicate k v → v ≡ 0 → length front ≡ k → a < k → get_or (front ++ rest) a 0 ≡ 0
front_is k v a front rest e z l u = get_or-append front rest 0 a (omega (arith, l, u)) ∙ (ap (λ (x : List ℕ). get_or x a 0) e ∙ (get_or-replicate k a v 0 u ∙ z))

taken : (m : ℕ) (xs : List ℕ) → m ≤ length xs → length (take m xs) ≡ m
taken m xs l = omega (arith, length-take m xs)

pub returns : goal.returns
returns c = λ s on.
    let rows = ap length c.rows.ensures in
    let cells : length (take (length c.rows.result.now * (c.args.self.now.symbols + 1) * (c.args.self.now.symbols + 1)) c.args.bench.now) ≡ length (frame_rows c.args.self.now) * (c.args.self.now.symbols + 1) * (c.args.self.now.symbols + 1) =
    ap (λ k. length (take (k * (c.args.self.now.symbols + 1) * (c.args.self.now.symbols + 1)) c.args.bench.now)) rows ∙ taken (length (frame_rows c.args.self.now) * (c.args.self.now.symbols + 1) * (c.args.self.now.symbols + 1)) c.args.bench.now c.requires.cells in
    front_is (length (take (length c.rows.result.now * (c.args.self.now.symbols + 1) * (c.args.self.now.symbols + 1)) c.args.bench.now)) c.byte.result (spot_place c.args.self.now s) c.fill.new.self _ (c.fill.ensures.after (λ y e. e)) c.byte.ensures c.fill.ensures.len
    (omega (arith, cells, place_below (length (frame_rows c.args.self.now)) c.args.self.now.symbols s.node s.start s.end on.node (omega (arith, on.start, on.end)) on.end))
