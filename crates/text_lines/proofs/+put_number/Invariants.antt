use Rattle.text_lines.proofs.+put_number.Given as goal

-- A call at a tenth of the number puts the higher digits.
abbrev pub decreases-put_number : goal.decreases-put_number
decreases-put_number l = l.n
