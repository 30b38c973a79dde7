-- `fits::node_limits` meets its contract: five numbers turned, at their places. Assumes nothing.
use Rattle.nodes.proofs.fits.node_limits.Goals as goal

pub returns : goal.returns
returns c =
    rw (c.turned-owner.ensures, c.turned-any.ensures, c.turned-time.ensures, c.turned-list.ensures, c.turned-limits.ensures)
