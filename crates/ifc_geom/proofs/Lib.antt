mod Deeper
