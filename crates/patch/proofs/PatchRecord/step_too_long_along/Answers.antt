-- `step_too_long_along` meets its contract: the search goes through the patch's surface on the axis.
use Rattle.std.proofs.Common.{rules, arith, ◌≡◌, ◌∙◌, Bool, ℕ, ◌<◌, ℤ, pos, length}
use lib.Dec.{lit<}
use Rattle.drawing.specs.Object.{scale_of}
use Rattle.drawing.proofs.Accepted.{counts_in}
use Rattle.cubic.proofs.Fits.{read}
use Rattle.surface.specs.Surface.{Surface, surface_of, long_steps, StepsSearchable}
use Rattle.rows.specs.Record.{HasLimits, axis_of, steps_too_long_along}
use Rattle.rows.proofs.Limits.{axis_numbered}
use Rattle.patch.specs.declared.Patch.{Patch}
use Rattle.patch.specs.Patch.{patch_of}
use Rattle.patch.specs.Machine.{InLimits, doubled_along}
use Rattle.patch.proofs.Along.{scale_read, searchable, search_finds}
use Rattle.patch.proofs.PatchRecord.step_too_long_along.Goals as goal

module _ (p : Patch) (all_points : length p.points ≡ 48) (has : HasLimits (patch_of p)) where
  limits : InLimits p
  limits =
      let n = (counts_in 256 (patch_of p).counts).0 has.counts in
      record {
        n_least = n.0 0 (lit< tt);
        n_most = n.1 0 (lit< tt);
        m_least = n.0 1 (lit< tt);
        m_most = n.1 1 (lit< tt);
        forty_eight = all_points;
        coordinates = has.coordinates;
      }

  -- With the surface and the scale as the code holds them.
  module _ {a : ℕ} (h : a < 3) {s : Surface} {r : ℤ}
      (start : s ≡ surface_of (doubled_along p a) 0) (scale : r ≡ pos (scale_of (patch_of p))) where
    can_search : StepsSearchable s (read r) p.n p.m
    can_search = rw (start, scale_read limits scale) (searchable limits h)

    searched : {found : Bool} → found ≡ long_steps s (read r) p.n p.m → found ≡ steps_too_long_along (patch_of p) a
    searched q = rw (start, scale_read limits scale) at q ∙ rw (axis_numbered a h) at (search_finds p (axis_of a))

pub scale-scale-requires : goal.scale-scale-requires
scale-scale-requires c = limits c.args.self.now (search rules) c.requires.has_limits

pub start_surface-requires-clause-in_limits : goal.start_surface-requires-clause-in_limits
start_surface-requires-clause-in_limits c = limits c.args.self.now (search rules) c.requires.has_limits

pub step_too_long-requires : goal.step_too_long-requires
step_too_long-requires c =
    can_search c.args.self.now (search rules) c.requires.has_limits c.requires.a_bound c.start_surface.ensures c.scale-scale.ensures

pub returns : goal.returns
returns c =
    searched c.args.self.now (search rules) c.requires.has_limits c.requires.a_bound c.start_surface.ensures c.scale-scale.ensures
    c.step_too_long.ensures
