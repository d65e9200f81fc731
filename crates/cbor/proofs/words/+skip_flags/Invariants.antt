use Rattle.cbor.proofs.words.+skip_flags.Given as goal

-- proposed from what the function passes where it calls itself
abbrev pub decreases-skip_flags : goal.decreases-skip_flags
decreases-skip_flags l = l.most
