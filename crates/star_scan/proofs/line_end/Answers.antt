-- `line_end` meets its contract: the run of bytes that end no line ends at a terminate or the end.
use mathlib.Core.Path.{sym, subst}
use native.Mathlib.Omega.{arith}
use Rattle.star_lex.specs.LineEnd.{LineEnd}
use Rattle.star_lex.proofs.Closing.{line-end}
use Rattle.star_scan.proofs.line_end.Goals as goal

pub returns : goal.returns
returns c =
    record {
      lower_bound = omega (arith, c.run_end.ensures);
      line_end = λ classes. subst (λ r. LineEnd c.args.file.now c.args.from r) (sym c.run_end.ensures)
          (line-end classes c.args.file.now c.args.from (λ i. omega (arith, c.shared_slice_known-1.given i)));
    }
