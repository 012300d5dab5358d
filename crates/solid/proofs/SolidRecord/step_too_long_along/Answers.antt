-- `step_too_long_along` meets its contract: the search goes through the solid's volume on the axis.
use Rattle.std.proofs.Common.{rules, arith, ◌≡◌, ◌∙◌, Bool, List, [], ◌∷◌, ℕ, ◌<◌, ℤ, pos, length}
use lib.Dec.{lit<}
use Rattle.bezier.specs.Exact.{scale}
use Rattle.drawing.proofs.Accepted.{counts_in}
use Rattle.cubic.proofs.Fits.{read}
use Rattle.surface.specs.Volume.{Volume, volume_of, long_volume_steps, VolumeSearchable}
use Rattle.rows.specs.Record.{HasLimits, axis_of, steps_too_long_along}
use Rattle.rows.proofs.Limits.{axis_numbered}
use Rattle.solid.specs.declared.Solid.{Solid}
use Rattle.solid.specs.Solid.{solid_of}
use Rattle.solid.specs.Machine.{InLimits, doubled_along}
use Rattle.solid.proofs.Along.{scale_read, searchable, search_finds}
use Rattle.solid.proofs.SolidRecord.step_too_long_along.Goals as goal

module _ (s : Solid) (all_points : length s.points ≡ 192) (has : HasLimits (solid_of s)) where
  limits : InLimits s.points s.n s.m s.l
  limits =
      let n = (counts_in 32 (solid_of s).counts).0 has.counts in
      record {
        n_least = n.0 0 (lit< tt);
        n_most = n.1 0 (lit< tt);
        m_least = n.0 1 (lit< tt);
        m_most = n.1 1 (lit< tt);
        l_least = n.0 2 (lit< tt);
        l_most = n.1 2 (lit< tt);
        all_points = all_points;
        coordinates = has.coordinates;
      }

  -- With the volume and the scale as the code holds them.
  module _ {a : ℕ} (h : a < 3) {v : Volume} {r : ℤ}
      (start : v ≡ volume_of (doubled_along s.points s.n s.m s.l a) 0) (is : r ≡ pos (scale (s.n ∷ s.m ∷ s.l ∷ []))) where
    can_search : VolumeSearchable v (read r) s.n s.m s.l
    can_search = rw (start, scale_read limits is) (searchable limits h)

    searched : {found : Bool} → found ≡ long_volume_steps v (read r) s.n s.m s.l → found ≡ steps_too_long_along (solid_of s) a
    searched e = rw (start, scale_read limits is) at e ∙ rw (axis_numbered a h) at (search_finds s (axis_of a))

pub scale-scale-requires : goal.scale-scale-requires
scale-scale-requires c =
    let l = limits c.args.self.now (search rules) c.requires.has_limits in (l.n_most, l.m_most, l.l_most)

pub start_volume-requires-clause-in_limits : goal.start_volume-requires-clause-in_limits
start_volume-requires-clause-in_limits c = limits c.args.self.now (search rules) c.requires.has_limits

pub step_too_long-requires : goal.step_too_long-requires
step_too_long-requires c =
    can_search c.args.self.now (search rules) c.requires.has_limits c.requires.a_bound c.start_volume.ensures c.scale-scale.ensures

pub returns : goal.returns
returns c =
    searched c.args.self.now (search rules) c.requires.has_limits c.requires.a_bound c.start_volume.ensures c.scale-scale.ensures
    c.step_too_long.ensures
