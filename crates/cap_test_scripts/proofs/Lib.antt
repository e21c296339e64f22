mod SyntaxLemmas
